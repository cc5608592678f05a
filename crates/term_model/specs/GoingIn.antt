-- Going into a form: the next part to evaluate is the first, from left to right, that the form's row evaluates before its own step and that
-- is no value. And the other way: what a form becomes with the value of the part that it waits for.
use Rattle.std.specs.Prelude.{ℕ, zero, suc, ◌+◌, ◌-◌, min, List, [], ◌∷◌, ◌++◌, length, Option, Some, None, option_map}
use Rattle.lisp_data.specs.declared.value.Value.{Value}
use Rattle.lisp_data.specs.declared.value.Value as value
use Rattle.syntax_trees.specs.Places.{row_of, forms_of}
use Rattle.lisp_data.specs.Parts.{nil}
use Rattle.lisp_data.specs.Symbols.{value_of_symbol}
use Rattle.syntax_trees.specs.declared.ast.Ast.{Ast}
use Rattle.syntax_trees.specs.declared.row.Bare.{Bare}
use Rattle.syntax_trees.specs.declared.row.Bare.TheVariants as bare
use Rattle.syntax_trees.specs.declared.row.Holder.{Holder}
use Rattle.syntax_trees.specs.declared.row.Holder.TheVariants as holder
use Rattle.syntax_trees.specs.declared.row.Named.{Named}
use Rattle.syntax_trees.specs.declared.row.Named.TheVariants as named
use Rattle.syntax_trees.specs.declared.row.Row.{Row}
use Rattle.syntax_trees.specs.declared.row.Row.TheVariants as row
use Rattle.term_model.specs.declared.focus.Focus.TheVariants as focus
use Rattle.term_model.specs.declared.found.Found.{Found}
use Rattle.term_model.specs.declared.found.Found.TheVariants.{Already, Here, Inside}
use Rattle.term_model.specs.declared.plain.Plain.{Plain}
use Rattle.term_model.specs.declared.plain.Plain.TheVariants as plain
use Rattle.term_model.specs.Progress.{Progress, progress}

-- a literal, a quoted form and a function's name are values
abbrev pub value_of : Row → Option Value
value_of (row.Literal v) = Some v
value_of (row.Quote v) = Some v
value_of (row.Function s) = Some (value_of_symbol s)
value_of (row.Variable x) = None
value_of (row.Bare b) = None
value_of (row.Named k name) = None
value_of (row.Held h x) = None
value_of (row.Let bindings) = None
value_of (row.LetStar bindings) = None
value_of (row.Setq names) = None
value_of (row.Defun name parameters) = None
value_of (row.HandlerBind kinds) = None
value_of (row.WithSimpleRestart name control arguments) = None
value_of (row.InPackage p) = None
value_of (row.Defpackage p uses exports) = None
value_of row.CondClause = None
value_of (row.HandlerClause kind x) = None
value_of (row.RestartClause name parameters report) = None

abbrev pub value_in : Ast → Option Value
value_in a = value_of (row_of a)

-- how many of its n subforms a row evaluates before its own step. What comes a part at a time (`and`, `let*`, a body) goes on by a step after
-- each; the subforms of `cond` are its clauses, and none of them is evaluated itself
abbrev pub needs_bare : Bare → ℕ → ℕ
needs_bare bare.If n = 1
needs_bare bare.When n = 1
needs_bare bare.Unless n = 1
needs_bare bare.Cond n = 0
needs_bare bare.And n = min n 1
needs_bare bare.Or n = min n 1
needs_bare bare.Progn n = min n 1
needs_bare bare.Return n = min n 1
needs_bare bare.Loop n = 0
needs_bare bare.Catch n = 1
needs_bare bare.Throw n = 2
needs_bare bare.UnwindProtect n = 0
needs_bare bare.HandlerCase n = 0
needs_bare bare.IgnoreErrors n = 0
needs_bare bare.RestartCase n = 0

abbrev pub needs_named : Named → ℕ → ℕ
needs_named named.Block n = 0
needs_named named.ReturnFrom n = min n 1
needs_named named.Call n = n

-- the count and the list of a loop are evaluated inside its block, and the value of `defvar` only where it has none
abbrev pub needs_held : Holder → ℕ
needs_held holder.DoTimes = 0
needs_held holder.DoList = 0
needs_held holder.Defvar = 0
needs_held holder.Defparameter = 1

abbrev pub needs : Row → ℕ → ℕ
needs (row.Literal v) n = 0
needs (row.Quote v) n = 0
needs (row.Variable x) n = 0
needs (row.Function s) n = 0
needs (row.Bare b) n = needs_bare b n
needs (row.Named k name) n = needs_named k n
needs (row.Held h x) n = needs_held h
needs (row.Let bindings) n = length bindings
needs (row.LetStar bindings) n = min (length bindings) 1
needs (row.Setq names) n = min n 1
needs (row.Defun name parameters) n = 0
needs (row.HandlerBind kinds) n = length kinds
needs (row.WithSimpleRestart name control arguments) n = arguments
needs (row.InPackage p) n = 0
needs (row.Defpackage p uses exports) n = 0
needs row.CondClause n = 0
needs (row.HandlerClause kind x) n = 0
needs (row.RestartClause name parameters report) n = 0

-- with the value it goes on, and without one it is this
abbrev pub part : Option Value → (Value → Found) → Found → Found
part (Some v) go inside = go v
part None go inside = inside

-- the redex of a form
abbrev pub ready : Row → ℕ → List Value → List Ast → Found
ready r d vs es = Here (focus.Form (progress r d vs es))

-- going into so many parts of those that are left
abbrev pub found : ℕ → Row → ℕ → List Value → List Ast → Found
found zero r d vs es = ready r d vs es
found (suc k) r d vs [] = ready r d vs []
found (suc k) r d vs (e ∷ es) =
    part (value_in e) (λ v. found k r (d + 1) (vs ++ v ∷ []) es) (Inside (progress r (d + 1) vs es) e)

-- going into the test of a clause, the first of these; the clause stays among them. One without a test counts as false
abbrev pub tested : ℕ → List Ast → List Ast → Found
tested d clauses [] = ready (row.Bare bare.Cond) d (nil ∷ []) clauses
tested d clauses (test ∷ es) =
    part (value_in test) (λ v. ready (row.Bare bare.Cond) d (v ∷ []) clauses) (Inside (progress (row.Bare bare.Cond) d [] clauses) test)

-- going into the clauses of `cond` that are left
abbrev pub cond : ℕ → List Ast → Found
cond d [] = ready (row.Bare bare.Cond) d [] []
cond d (clause ∷ clauses) = tested d (clause ∷ clauses) (forms_of clause)

-- going into the parts of a row
abbrev pub first_part : Row → List Ast → Found
first_part (row.Bare bare.Cond) es = cond 0 es
first_part r es = found (needs r (length es)) r 0 [] es

-- what going into a form meets
abbrev pub look : Ast → Found
look a = part (value_in a) Already (first_part (row_of a) (forms_of a))

-- what a form becomes with the value of the part that it waits for
abbrev pub continued : Progress → Value → Found
continued p v = found (needs p.row (p.done + length p.rest) - p.done) p.row p.done (p.values ++ v ∷ []) p.rest

-- what comes a part at a time goes on: the same row, with its next part and no value
abbrev pub advanced : Progress → Found
advanced p = found 1 p.row p.done [] p.rest

-- what going into a body meets: its forms one after another; one form alone stands for itself, and none for NIL
abbrev pub body : List Ast → Found
body [] = Already nil
body (e ∷ []) = look e
body (e ∷ f ∷ es) = found 1 (row.Bare bare.Progn) 0 [] (e ∷ f ∷ es)

-- what a layer becomes with the value of what is inside it. A marker keeps the value: None
abbrev pub resumed : Plain → Value → Option Found
resumed (plain.Form p) v = Some (continued p v)
resumed (plain.Map f list next collected) v = Some (Here (focus.Map f list next (option_map (λ vs. vs ++ v ∷ []) collected)))
resumed (plain.Before f) v = None
resumed (plain.Call f vs) v = None
resumed plain.Eval v = None
resumed (plain.Lexical x w) v = None
resumed (plain.Dynamic x w) v = None
resumed (plain.Block name) v = None
resumed (plain.Catch tag) v = None
resumed (plain.Handlers cluster) v = None
resumed (plain.Restarts offers) v = None
resumed (plain.Handling n j) v = None
resumed (plain.Answer kept) v = None
