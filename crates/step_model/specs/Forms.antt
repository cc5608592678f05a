-- The rows of forms whose parts are evaluated, as far as the form wants them before its own step.
use Rattle.std.specs.Prelude.{ℕ, ℤ, pos, ◌+◌, ◌-◌, ◌+ℤ◌, Bool, true, false, if◌then◌else◌, is_some, List, [], ◌∷◌, drop, map, Option, Some, None, Result, Ok, Err, codes, int_lt, slice_get, unwrap_or}
use Rattle.std.specs.Option.{option_map_or}
use Rattle.lisp_data.specs.declared.symbol.Symbol.{Symbol}
use Rattle.lisp_data.specs.declared.type_id.TypeId.{TypeId}
use Rattle.lisp_data.specs.declared.value.Value.{Value}
use Rattle.lisp_data.specs.declared.value.Value as value
use Rattle.lisp_data.specs.declared.value.Value.TheOpen.{Value-F}
use Rattle.lisp_data.specs.declared.value.Value.TheViews.{out-Value}
use Rattle.lisp_data.specs.declared.value.Condition.{Condition}
use Rattle.lisp_errors.specs.Causes.{no_block, no_catch_tag}
use Rattle.lisp_errors.specs.declared.wanted.Wanted.TheVariants as wanted
use Rattle.lisp_packages.specs.Making.{defined}
use Rattle.lisp_packages.specs.Naming.{in_named}
use Rattle.lisp_packages.specs.Packages.{name_at, place_of}
use Rattle.lisp_packages.specs.declared.fault.NameFault.{NameFault}
use Rattle.lisp_packages.specs.declared.lisp_package.Package.{Package}
use Rattle.syntax_trees.specs.Places.{row_of, forms_of}
use Rattle.lisp_data.specs.Symbols.{cl, value_of_symbol}
use Rattle.syntax_trees.specs.declared.ast.Ast.{Ast}
use Rattle.syntax_trees.specs.declared.row.Bare.{Bare}
use Rattle.syntax_trees.specs.declared.row.Bare.TheVariants as bare
use Rattle.syntax_trees.specs.declared.row.Binding.{Binding}
use Rattle.syntax_trees.specs.declared.row.Designator.{Designator}
use Rattle.syntax_trees.specs.declared.row.Designator.TheVariants as designator
use Rattle.syntax_trees.specs.declared.row.Holder.{Holder}
use Rattle.syntax_trees.specs.declared.row.Holder.TheVariants as holder
use Rattle.syntax_trees.specs.declared.row.Named.{Named}
use Rattle.syntax_trees.specs.declared.row.Named.TheVariants as named
use Rattle.syntax_trees.specs.declared.row.Parameters.{Parameters}
use Rattle.syntax_trees.specs.declared.row.Row.{Row}
use Rattle.syntax_trees.specs.declared.row.Row.TheVariants as row
use Rattle.term_model.specs.declared.focus.Focus.TheVariants as focus
use Rattle.term_model.specs.declared.found.Found.{Found}
use Rattle.term_model.specs.declared.found.Found.TheVariants.{Here}
use Rattle.term_model.specs.declared.plain.Cluster.TheVariants.{Clauses, Functions, Ignoring}
use Rattle.term_model.specs.declared.plain.HandlerFunction.{HandlerFunction}
use Rattle.term_model.specs.declared.plain.Plain.{Plain}
use Rattle.term_model.specs.declared.plain.Plain.TheVariants as plain
use Rattle.term_model.specs.declared.kept.Bring.TheVariants as bring
use Rattle.term_model.specs.declared.restart.Action.TheVariants.{Run}
use Rattle.term_model.specs.declared.restart.Offer.{Offer}
use Rattle.lisp_data.specs.Parts.{nil, yes}
use Rattle.term_model.specs.GoingIn.{advanced, body, cond, look}
use Rattle.term_model.specs.Progress.{Progress}
use Rattle.term_model.specs.Targets.{find_block, find_catch}
use Rattle.term_model.specs.Term.{Context}
use Rattle.term_model.specs.Variables.{lexical}
use Rattle.step_model.specs.Act.{Act, Goes, Raises, Protects, Exits, Changes, Assigns, Sets}
use Rattle.step_model.specs.CurrentPackage.{package_variable}
use Rattle.step_model.specs.Decision.{Decision, Alone, Beyond}
use Rattle.step_model.specs.Functions.{applies, gives_or, giving_nil, unbound, value_now}
use Rattle.step_model.specs.Image.{Function, ImageState, Place, global, is_special, with_function, with_global, with_packages, with_special}
use Rattle.step_model.specs.Kinds.{current, gives_value, is_true, or_raise, or_refuse, symbol_of, wrong}
use Rattle.step_model.specs.Now.{Now}
use Rattle.step_model.specs.OneStep.{alone, formatted}
use Rattle.step_model.specs.Roles.{Role, Form, Definition, TestClause, HandlerClause, RestartClause, role_of}

-- ---- parts that several rows share

-- the value of the part that was evaluated first; NIL where the form has none
abbrev pub first_value : List Value → Value
first_value [] = nil
first_value (v ∷ vs) = v

abbrev pub second_value : List Value → Value
second_value [] = nil
second_value (v ∷ vs) = first_value vs

-- the last part gives its value, and before it the form goes on
abbrev pub goes_on : Value → List Ast → Found → Act
goes_on v [] found = gives_value v
goes_on v (e ∷ es) found = Goes [] found

-- a form, NIL where it isn't written
abbrev pub looks : List Ast → Act
looks [] = gives_value nil
looks (e ∷ es) = Goes [] (look e)

-- the same inside a marker
abbrev pub looks_inside : Plain → List Ast → Act
looks_inside p [] = gives_value nil
looks_inside p (e ∷ es) = Goes (p ∷ []) (look e)

-- a body, or NIL
abbrev pub runs_if : Bool → List Ast → Act
runs_if true es = Goes [] (body es)
runs_if false es = gives_value nil

-- ---- choices

abbrev pub if_row : List Ast → Bool → Act
if_row es true = looks es
if_row es false = looks (drop 1 es)

-- the first clause with the value of its test: its body, or the test's value where it has none; and else the clauses behind it
abbrev pub clause_row : ℕ → Value → Bool → List Ast → Act
clause_row d v true [] = gives_value v
clause_row d v true (c ∷ cs) = goes_on v (drop 1 (forms_of c)) (body (drop 1 (forms_of c)))
clause_row d v false [] = gives_value nil
clause_row d v false (c ∷ cs) = goes_on nil cs (cond (d + 1) cs)

abbrev pub cond_row : Progress → List Value → Act
cond_row p [] = gives_value nil
cond_row p (v ∷ vs) = clause_row p.done v (is_true v) p.rest

abbrev pub and_row : Progress → List Value → Act
and_row p [] = gives_value yes
and_row p (v ∷ vs) = if is_true v then goes_on v p.rest (advanced p) else gives_value v

abbrev pub or_row : Progress → List Value → Act
or_row p [] = gives_value nil
or_row p (v ∷ vs) = if is_true v then gives_value v else goes_on v p.rest (advanced p)

-- `progn`, and a body: the forms after the value
abbrev pub progn_row : Progress → List Value → Act
progn_row p [] = gives_value nil
progn_row p (v ∷ vs) = goes_on v p.rest (body p.rest)

-- ---- variables

-- the value of a lexical variable, else the dynamic or global one
abbrev pub variable_row : Symbol → Option Value → Decision
variable_row x (Some v) = Alone (gives_value v)
variable_row x None = Beyond (λ n. gives_or (value_now n x) (unbound n x))

-- the assignment of a lexical variable, or of another
abbrev pub assigns_row : Symbol → Value → Act → Option Value → Decision
assigns_row x v act (Some old) = Alone (Assigns x v act)
assigns_row x v act None = Beyond (λ n. Assigns x v act)

abbrev pub setq_named : Context → Value → Act → Option Symbol → Decision
setq_named c v act (Some x) = assigns_row x v act (lexical x c)
setq_named c v act None = Alone act

-- the variable whose form was evaluated is assigned; the value of the last is the form's
abbrev pub setq_row : Context → List Symbol → Progress → List Value → Decision
setq_row c names p [] = Alone (gives_value nil)
setq_row c names p (v ∷ vs) = setq_named c v (goes_on v p.rest (advanced p)) (slice_get names (p.done - 1))

-- the binding of a variable: a dynamic one where it is special
abbrev pub binding : ImageState → Symbol → Value → Plain
binding image x v = if is_special image x then plain.Dynamic x v else plain.Lexical x v

abbrev pub all_bindings : ImageState → List Binding → List Value → List Plain
all_bindings image [] vs = []
all_bindings image (b ∷ bs) [] = []
all_bindings image (b ∷ bs) (v ∷ vs) = binding image b.variable v ∷ all_bindings image bs vs

-- what comes after a binding of `let*`: the next one, or the body
abbrev pub let_star_rest : Progress → List Binding → Found
let_star_rest p [] = body p.rest
let_star_rest p (b ∷ bs) = advanced p

-- the bindings that are left, the first with its value
abbrev pub let_star_row : Progress → List Binding → Decision
let_star_row p [] = Alone (Goes [] (body p.rest))
let_star_row p (b ∷ bs) = Beyond (λ n. Goes (binding n.image b.variable (first_value p.values) ∷ []) (let_star_rest p bs))

-- ---- exits

-- an exit with a value to a layer, or a raise where there is none
abbrev pub throws : Option ℕ → Value → Condition → Act
throws (Some target) v missing = Exits (record { target = target; bring = bring.Value v })
throws None v missing = Raises missing

abbrev pub returns : Symbol → Value → Decision
returns name v = Beyond (λ n. throws (find_block name n.context) v (no_block (current n) (value_of_symbol name)))

abbrev pub throw_row : Value → Value → Decision
throw_row tag v = Beyond (λ n. throws (find_catch tag n.context) v (no_catch_tag (current n) tag))

-- a form, and the cleanup that follows it
abbrev pub protects_row : List Ast → Act
protects_row [] = gives_value nil
protects_row (e ∷ es) = Protects e es

-- ---- loops

-- the block that a loop stands in (HyperSpec 6.1.1.3, DOTIMES, DOLIST)
abbrev pub nil_name : Symbol
nil_name = cl (codes "NIL")

abbrev pub loop_block : Plain
loop_block = plain.Block nil_name

-- a turn puts its body before the loop's rest
abbrev pub loops : List Ast → Act
loops es = Goes (plain.Before (focus.Loop es) ∷ []) (body es)

-- a turn of `dotimes` is there for each number below the count
abbrev pub turn_below : Symbol → ℤ → Value → List Ast → Bool → Act
turn_below x i count es true = Goes (plain.Before (focus.DoTimes x (i +ℤ pos 1) count es) ∷ plain.Lexical x (value.Int i) ∷ []) (body es)
turn_below x i count es false = gives_value nil

abbrev pub counts_to : Symbol → ℤ → Value → List Ast → Value-F Value Condition → Decision
counts_to x i count es (Value-F.Int k) = Alone (turn_below x i count es (int_lt i k))
counts_to x i count es _ = Beyond (λ n. wrong n count wanted.Integer)

abbrev pub counts : Symbol → ℤ → Value → List Ast → Decision
counts x i count es = counts_to x i count es (out-Value count)

-- a turn of `dolist` is there for each item
abbrev pub turn_with : Symbol → ℕ → Value → List Ast → Option Value → Act
turn_with x i list es (Some v) = Goes (plain.Before (focus.DoList x (i + 1) list es) ∷ plain.Lexical x v ∷ []) (body es)
turn_with x i list es None = gives_value nil

abbrev pub lists_in : Symbol → ℕ → Value → List Ast → Value-F Value Condition → Decision
lists_in x i list es (Value-F.List vs) = Alone (turn_with x i list es (slice_get vs i))
lists_in x i list es _ = Beyond (λ n. wrong n list wanted.List)

abbrev pub lists : Symbol → ℕ → Value → List Ast → Decision
lists x i list es = lists_in x i list es (out-Value list)

-- the count and the list are evaluated inside the block, and then the first turn comes
abbrev pub dotimes_row : Symbol → Progress → List Value → Decision
dotimes_row x p [] = Alone (Goes (loop_block ∷ []) (advanced p))
dotimes_row x p (v ∷ vs) = counts x (pos 0) v p.rest

abbrev pub dolist_row : Symbol → Progress → List Value → Decision
dolist_row x p [] = Alone (Goes (loop_block ∷ []) (advanced p))
dolist_row x p (v ∷ vs) = lists x 0 v p.rest

-- ---- definitions

abbrev pub optional_of : Option (List Symbol) → List Symbol
optional_of xs = unwrap_or xs []

-- a function of these parameters and this body
abbrev pub function_of : Parameters → List Ast → Option Place → Function
function_of ps es source = record { required = ps.required; optional = optional_of ps.optional; rest = ps.rest; body = es; source = source }

-- a function's definition, which gives its name
abbrev pub defines : Now → Symbol → Parameters → List Ast → Option Place → Act
defines n g ps es source = Changes (with_function n.image g (function_of ps es source)) (gives_value (value_of_symbol g))

-- a variable proclaimed special, which gives its name; the same with a value
abbrev pub proclaims : Now → Symbol → Act
proclaims n x = Changes (with_special n.image x) (gives_value (value_of_symbol x))

abbrev pub defines_variable : Now → Symbol → Value → Act
defines_variable n x v = Changes (with_global (with_special n.image x) x v) (gives_value (value_of_symbol x))

-- the value is evaluated and set only where the variable has no global value
abbrev pub defvar_first : Progress → Symbol → Now → List Ast → Act
defvar_first p x n [] = proclaims n x
defvar_first p x n (e ∷ es) = if is_some (global n.image x) then proclaims n x else Goes [] (advanced p)

abbrev pub defvar_row : Symbol → Progress → Now → List Value → Act
defvar_row x p n [] = defvar_first p x n p.rest
defvar_row x p n (v ∷ vs) = defines_variable n x v

-- ---- packages

abbrev pub name_in : Designator → List ℕ
name_in (designator.Str text) = text
name_in (designator.Sym s) = s.name

-- the package of a name becomes the current one
abbrev pub in_package : Now → List ℕ → Act
in_package n full = Sets package_variable (value.Str full) (gives_value (value.Str full))

abbrev pub in_package_row : Now → Designator → Act
in_package_row n p = or_refuse (in_named n.image.packages (name_in p) (λ i. Ok (name_at n.image.packages i))) (in_package n)

abbrev pub full_name : List Package → List ℕ → List ℕ
full_name ps name = option_map_or (name_at ps) (place_of ps name) name

abbrev pub names_in : Option (List Designator) → List (List ℕ)
names_in None = []
names_in (Some ds) = map name_in ds

-- the packages with that one: where there is one of its name it is kept, with the uses and exports that it lacks
abbrev pub with_package : List Package → Designator → Option (List Designator) → Option (List Designator) → Result (List Package) NameFault
with_package ps d uses exports = defined ps (name_in d) (names_in uses) (names_in exports)

abbrev pub defines_package : Now → List ℕ → List Package → Act
defines_package n name ps = Changes (with_packages n.image ps) (gives_value (value.Str (full_name ps name)))

-- ---- handlers and restarts

abbrev pub handler_named : TypeId → Value → Option Symbol → Result (List HandlerFunction) Value → Result (List HandlerFunction) Value
handler_named kind v (Some s) (Ok hs) = Ok ((record { kind = kind; function = s }) ∷ hs)
handler_named kind v (Some s) (Err bad) = Err bad
handler_named kind v None hs = Err v

-- the handlers of these types with their functions' names, or the first value that names none
abbrev pub named_handlers : List TypeId → List Value → Result (List HandlerFunction) Value
named_handlers [] vs = Ok []
named_handlers (kind ∷ kinds) [] = Ok []
named_handlers (kind ∷ kinds) (v ∷ vs) = handler_named kind v (symbol_of v) (named_handlers kinds vs)

abbrev pub binds_handlers : Now → List Ast → Result (List HandlerFunction) Value → Act
binds_handlers n es (Ok hs) = Goes (plain.Handlers (Functions hs) ∷ []) (body es)
binds_handlers n es (Err bad) = wrong n bad wanted.Symbol

-- the restart of a clause before others: its text is its name's where no report is written. Every other node offers none
abbrev pub offers_with : Ast → Role → List Offer → List Offer
offers_with a (RestartClause name parameters report) offers = (record { name = name; text = unwrap_or report name.name; action = Run a }) ∷ offers
offers_with a (HandlerClause x) offers = offers
offers_with a (Definition name parameters) offers = offers
offers_with a TestClause offers = offers
offers_with a Form offers = offers

abbrev pub offers_of : List Ast → List Offer
offers_of [] = []
offers_of (a ∷ more) = offers_with a (role_of (row_of a)) (offers_of more)

abbrev pub simple_restart : Now → Symbol → List ℕ → List Value → List Ast → Act
simple_restart n name control vs es =
    or_raise (formatted (current n) control vs) (λ text. Goes (plain.Restarts (giving_nil name text ∷ []) ∷ []) (body es))

-- ---- calls

-- a function that needs its arguments alone, or another
abbrev pub call_row : Symbol → List Value → Option Value → Decision
call_row g vs (Some v) = Alone (gives_value v)
call_row g vs None = Beyond (λ n. applies n g vs)

abbrev pub call : Symbol → List Value → Decision
call g vs = call_row g vs (alone g vs)

-- ---- the rows

abbrev pub bare_row : Bare → Progress → Decision
-- the chosen part
bare_row bare.If p = Alone (if_row p.rest (is_true (first_value p.values)))
bare_row bare.When p = Alone (runs_if (is_true (first_value p.values)) p.rest)
bare_row bare.Unless p = Alone (if is_true (first_value p.values) then gives_value nil else Goes [] (body p.rest))
bare_row bare.Cond p = Alone (cond_row p p.values)
bare_row bare.And p = Alone (and_row p p.values)
bare_row bare.Or p = Alone (or_row p p.values)
-- the forms after the value
bare_row bare.Progn p = Alone (progn_row p p.values)
bare_row bare.Return p = returns nil_name (first_value p.values)
-- an exit point round the loop, round the body, round the form
bare_row bare.Loop p = Alone (Goes (loop_block ∷ []) (Here (focus.Loop p.rest)))
bare_row bare.Catch p = Alone (Goes (plain.Catch (first_value p.values) ∷ []) (body p.rest))
bare_row bare.Throw p = throw_row (first_value p.values) (second_value p.values)
bare_row bare.UnwindProtect p = Beyond (λ n. protects_row p.rest)
-- handlers and restarts round the form, or the body
bare_row bare.HandlerCase p = Alone (looks_inside (plain.Handlers (Clauses (drop 1 p.rest))) p.rest)
bare_row bare.IgnoreErrors p = Alone (Goes (plain.Handlers Ignoring ∷ []) (body p.rest))
bare_row bare.RestartCase p = Alone (looks_inside (plain.Restarts (offers_of (drop 1 p.rest))) p.rest)

abbrev pub named_row : Named → Symbol → Progress → Decision
named_row named.Block name p = Alone (Goes (plain.Block name ∷ []) (body p.rest))
named_row named.ReturnFrom name p = returns name (first_value p.values)
named_row named.Call g p = call g p.values

abbrev pub held_row : Holder → Symbol → Progress → Decision
held_row holder.DoTimes x p = dotimes_row x p p.values
held_row holder.DoList x p = dolist_row x p p.values
held_row holder.Defvar x p = Beyond (λ n. defvar_row x p n p.values)
held_row holder.Defparameter x p = Beyond (λ n. defines_variable n x (first_value p.values))

abbrev pub form_by : Context → Row → Progress → Decision
-- values are their own
form_by c (row.Literal v) p = Alone (gives_value v)
form_by c (row.Quote v) p = Alone (gives_value v)
form_by c (row.Function s) p = Alone (gives_value (value_of_symbol s))
form_by c (row.Variable x) p = variable_row x (lexical x c)
form_by c (row.Bare b) p = bare_row b p
form_by c (row.Named k name) p = named_row k name p
form_by c (row.Held h x) p = held_row h x p
-- the bindings round the body
form_by c (row.Let bindings) p = Beyond (λ n. Goes (all_bindings n.image bindings p.values) (body p.rest))
form_by c (row.LetStar bindings) p = let_star_row p (drop (p.done - 1) bindings)
form_by c (row.Setq names) p = setq_row c names p p.values
form_by c (row.Defun g ps) p = Beyond (λ n. defines n g ps p.rest None)
form_by c (row.HandlerBind kinds) p = Beyond (λ n. binds_handlers n p.rest (named_handlers kinds p.values))
form_by c (row.WithSimpleRestart name control arguments) p = Beyond (λ n. simple_restart n name control p.values p.rest)
form_by c (row.InPackage d) p = Beyond (λ n. in_package_row n d)
form_by c (row.Defpackage d uses exports) p = Beyond (λ n. or_refuse (with_package n.image.packages d uses exports) (defines_package n (name_in d)))
-- a clause is no form, and stands nowhere as one
form_by c row.CondClause p = Alone (gives_value nil)
form_by c (row.HandlerClause kind x) p = Alone (gives_value nil)
form_by c (row.RestartClause name parameters report) p = Alone (gives_value nil)

-- the row of a form
abbrev pub form_row : Context → Progress → Decision
form_row c p = form_by c p.row p
