-- The handlers in force (HyperSpec 9.1.4): from the newest cluster outwards, from left to right in a cluster, up to the innermost level of
-- the debugger. While a handler runs, only those are in force that stand outside its cluster. Signalling finds the first that takes the
-- condition, and goes on behind one that declined.
use Rattle.std.specs.Prelude.{ℕ, ◌+◌, ◌-◌, ◌==◌, Bool, false, ◌&&◌, if◌then◌else◌, nat_lt, List, [], ◌∷◌, ◌++◌, length, Option, Some, None, find}
use Rattle.lisp_data.specs.declared.symbol.Symbol.{Symbol}
use Rattle.lisp_data.specs.declared.type_id.TypeId.{TypeId}
use Rattle.lisp_data.specs.declared.type_id.TypeId.TheVariants as type
use Rattle.syntax_trees.specs.declared.ast.Ast.{Ast}
use Rattle.syntax_trees.specs.declared.row.Row.{Row}
use Rattle.syntax_trees.specs.declared.row.Row.TheVariants as row
use Rattle.syntax_trees.specs.Places.{row_of}
use Rattle.term_model.specs.declared.frame.Frame.TheVariants as frame
use Rattle.term_model.specs.declared.plain.Cluster.{Cluster}
use Rattle.term_model.specs.declared.plain.Cluster.TheVariants.{Functions, Clauses, Ignoring}
use Rattle.term_model.specs.declared.plain.HandlerFunction.{HandlerFunction}
use Rattle.term_model.specs.declared.plain.Plain.TheVariants as plain
use Rattle.lisp_types.specs.Kinds.{is_kind}
use Rattle.term_model.specs.Term.{Context}

-- how a handler takes a condition: by a call of a function, or by a clause of its form
pub data How : Type 0 where
  Function : Symbol → How
  Clause : How

-- a handler: the number of its layer, its place in the cluster from 0, the type of the conditions that it takes, and how it takes one
pub record HandlerAt : Type 0 where
  pub layer : ℕ
  pub index : ℕ
  pub kind : Option TypeId
  pub how : How

-- the handlers of a cluster, each with the type of the conditions that it takes
abbrev pub functions_of : List HandlerFunction → List (Option TypeId × How)
functions_of [] = []
functions_of (h ∷ hs) = (Some h.kind, Function h.function) ∷ functions_of hs

-- the type of a clause of `handler-case`; a node that is none takes nothing
abbrev pub clause_kind : Row → Option TypeId
clause_kind (row.HandlerClause kind x) = Some kind
clause_kind _ = None

abbrev pub clauses_of : List Ast → List (Option TypeId × How)
clauses_of [] = []
clauses_of (a ∷ more) = (clause_kind (row_of a), Clause) ∷ clauses_of more

abbrev pub handlers_of : Cluster → List (Option TypeId × How)
handlers_of (Functions hs) = functions_of hs
handlers_of (Clauses clauses) = clauses_of clauses
handlers_of Ignoring = (Some type.Error, Clause) ∷ []

-- these handlers of the layer of this number, the first of which has this place in its cluster
abbrev pub placed : ℕ → ℕ → List (Option TypeId × How) → List HandlerAt
placed n i [] = []
placed n i (h ∷ hs) = (record { layer = n; index = i; kind = h.0; how = h.1 }) ∷ placed n (i + 1) hs

-- those of a layer, where only layers of number k or less count
abbrev pub of_layer : ℕ → ℕ → Cluster → List HandlerAt
of_layer k n cluster = if nat_lt k n then [] else placed n 0 (handlers_of cluster)

-- which layers count outside the mark of a running handler: those outside its cluster, where the mark itself counts
abbrev pub past_mark : ℕ → ℕ → ℕ → ℕ
past_mark k n p = if nat_lt k n then k else p - 1

-- the handlers in force, where only layers of number k or less count
abbrev pub in_force_from : ℕ → Context → List HandlerAt
in_force_from k [] = []
in_force_from k (frame.Sldb n condition again ∷ c) = []
in_force_from k (frame.On (plain.Handlers cluster) ∷ c) = of_layer k (length c + 1) cluster ++ in_force_from k c
in_force_from k (frame.On (plain.Handling p j) ∷ c) = in_force_from (past_mark k (length c + 1) p) c
in_force_from k (_ ∷ c) = in_force_from k c

-- the handlers in force
abbrev pub in_force : Context → List HandlerAt
in_force c = in_force_from (length c) c

-- what stands behind the handler of this place in the cluster of the layer of this number
abbrev pub behind : ℕ → ℕ → List HandlerAt → List HandlerAt
behind n i [] = []
behind n i (h ∷ hs) = if h.layer == n && h.index == i then hs else behind n i hs

-- whether a handler of this type takes conditions of that one
abbrev pub takes : TypeId → Option TypeId → Bool
takes kind (Some k) = is_kind kind k
takes kind None = false

-- the first of these handlers that takes conditions of a type
abbrev pub find_handler : TypeId → List HandlerAt → Option HandlerAt
find_handler kind hs = find (λ h. takes kind h.kind) hs
