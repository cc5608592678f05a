-- The row of a form, with its subforms: the table of the syntax, one definition a row, None where the parts fit no form of the operator
-- (HyperSpec 3.1.2.1.2 and the entries of the operators). A body is any number of forms.
use Rattle.std.specs.Prelude.{Bool, true, not, ◌&&◌, ◌||◌, if◌then◌else◌, length, List, [], ◌∷◌, codes, Option, Some, None, is_some, option_map, option_and_then}
use Rattle.std.specs.List.{list_all}
use Rattle.lisp_data.specs.declared.symbol.Symbol.{Symbol}
use Rattle.lisp_data.specs.declared.type_id.TypeId.{TypeId}
use Rattle.lisp_data.specs.declared.value.Value.{Value}
use Rattle.lisp_data.specs.declared.value.Value.TheOpen.{Value-F}
use Rattle.lisp_data.specs.declared.value.Value.TheViews.{out-Value}
use Rattle.lisp_data.specs.declared.value.Condition.{Condition}
use Rattle.lisp_data.specs.Parts.{nil, value_items, value_text}
use Rattle.lisp_data.specs.Symbols.{is_keyword, names}
use Rattle.lisp_syntax.specs.Symbols.{is_readable}
use Rattle.syntax_trees.specs.declared.row.Bare.{Bare}
use Rattle.syntax_trees.specs.declared.row.Bare.TheVariants as bare
use Rattle.syntax_trees.specs.declared.row.Named.{Named}
use Rattle.syntax_trees.specs.declared.row.Named.TheVariants as named
use Rattle.syntax_trees.specs.declared.row.Holder.{Holder}
use Rattle.syntax_trees.specs.declared.row.Holder.TheVariants as holder
use Rattle.syntax_trees.specs.declared.row.Init.{Init}
use Rattle.syntax_trees.specs.declared.row.Init.TheVariants as init
use Rattle.syntax_trees.specs.declared.row.Binding.{Binding}
use Rattle.syntax_trees.specs.declared.row.Designator.{Designator}
use Rattle.syntax_trees.specs.declared.row.Row.{Row}
use Rattle.syntax_trees.specs.declared.row.Row.TheVariants as row
use Rattle.lisp_syntax.specs.declared.operator.Operator.{Operator}
use Rattle.lisp_syntax.specs.declared.operator.Operator.TheVariants as op
use Rattle.lisp_syntax.specs.declared.sort.Sort.{Sort}
use Rattle.lisp_syntax.specs.declared.sort.Sort.TheVariants as sort
use Rattle.lisp_syntax.specs.Operators.{operator_of}
use Rattle.lisp_syntax.specs.Parts.{both, symbol_of, is_symbol, variable_of, readable_of, restart_name_of, condition_type_of, at_most_one_of, variables_of, report_of, parameters_of, designator_of, options_of}
use Rattle.lisp_syntax.specs.Rows.{Fitting, fitting, fitted, is_count, may_follow, may_hold}

-- ---- clauses

abbrev pub cond_clause_in : List Value → Option Fitting
cond_clause_in [] = None
cond_clause_in (test ∷ body) = Some (fitting row.CondClause [] (test ∷ body))

-- `(C body)`
unfoldable pub cond_clause_of : Value → Option Fitting
cond_clause_of v = option_and_then cond_clause_in (value_items v)

abbrev pub handler_clause_with : List Value → TypeId → Option Symbol → Fitting
handler_clause_with body kind v = fitting (row.HandlerClause kind v) [] body

abbrev pub handler_clause_in : List Value → Option Fitting
handler_clause_in (t ∷ vs ∷ body) = both (handler_clause_with body) (condition_type_of t) (at_most_one_of vs)
handler_clause_in _ = None

-- `(TYPE ([V]) body)`
unfoldable pub handler_clause_of : Value → Option Fitting
handler_clause_of v = option_and_then handler_clause_in (value_items v)

abbrev pub restart_clause_with : List Value → Symbol → List Symbol → Fitting
restart_clause_with forms n vs = fitting (row.RestartClause n vs (report_of forms).0) [] (report_of forms).1

abbrev pub restart_clause_in : List Value → Option Fitting
restart_clause_in (n ∷ vs ∷ forms) = both (restart_clause_with forms) (restart_name_of n) (variables_of vs)
restart_clause_in _ = None

-- `(N (V..) [:report "TEXT"] body)`
unfoldable pub restart_clause_of : Value → Option Fitting
restart_clause_of v = option_and_then restart_clause_in (value_items v)

-- ---- items that bring a subform each

abbrev pub joins : {A : Type 0} → A × Value → List A × List Value → List A × List Value
joins x xs = (x.0 ∷ xs.0, x.1 ∷ xs.1)

-- what each item is read as, and their subforms
abbrev pub each_with : {A : Type 0} → (Value → Option (A × Value)) → List Value → Option (List A × List Value)
each_with read [] = Some ([], [])
each_with read (x ∷ xs) = both joins (read x) (each_with read xs)

abbrev pub bound_by : Init → Value → Symbol → Binding × Value
bound_by i e s = (record { variable = s; init = i }, e)

abbrev pub binding_in : List Value → Option (Binding × Value)
binding_in (v ∷ []) = option_map (bound_by init.Empty nil) (readable_of v)
binding_in (v ∷ e ∷ []) = option_map (bound_by init.Form e) (readable_of v)
binding_in _ = None

abbrev pub binding_at : Value → Option (List Value) → Option (Binding × Value)
binding_at v None = option_map (bound_by init.Bare nil) (readable_of v)
binding_at v (Some items) = binding_in items

-- `V`, `(V)` or `(V E)`: without a form it brings NIL
unfoldable pub binding_of : Value → Option (Binding × Value)
binding_of v = binding_at v (value_items v)

abbrev pub assigned : Value → Symbol → Symbol × Value
assigned e s = (s, e)

-- `V E`, any number of times
abbrev pub assignments_of : List Value → Option (List Symbol × List Value)
assignments_of [] = Some ([], [])
assignments_of (v ∷ []) = None
assignments_of (v ∷ e ∷ more) = both joins (option_map (assigned e) (readable_of v)) (assignments_of more)

abbrev pub handled : Value → TypeId → TypeId × Value
handled e t = (t, e)

abbrev pub handler_in : List Value → Option (TypeId × Value)
handler_in (t ∷ e ∷ []) = option_map (handled e) (condition_type_of t)
handler_in _ = None

-- `(TYPE E)`
unfoldable pub handler_of : Value → Option (TypeId × Value)
handler_of v = option_and_then handler_in (value_items v)

-- ---- rows of operators

-- `(quote X)`
abbrev pub quote_row : List Value → Option Fitting
quote_row (x ∷ []) = Some (fitting (row.Quote x) [] [])
quote_row _ = None

abbrev pub function_with : Symbol → Fitting
function_with s = fitting (row.Function s) [] []

-- `(function F)`
abbrev pub function_row : List Value → Option Fitting
function_row (f ∷ []) = option_map function_with (symbol_of f)
function_row _ = None

-- what the body of the operator asks of its forms: no symbol in a loop, and clauses of the operator's own shape
abbrev pub are_bare : Bare → List Value → Bool
are_bare bare.Loop body = list_all (λ e. not (is_symbol e)) body
are_bare bare.Cond body = list_all (λ c. is_some (cond_clause_of c)) body
are_bare bare.HandlerCase body = list_all (λ c. is_some (handler_clause_of c)) body
are_bare bare.RestartCase body = list_all (λ c. is_some (restart_clause_of c)) body
are_bare _ body = true

-- `(OPERATOR E ..)`
abbrev pub bare_row : Bare → List Value → Option Fitting
bare_row b parts = if is_count b (length parts) && are_bare b (fitted (row.Bare b) parts).body then Some (fitted (row.Bare b) parts) else None

abbrev pub named_with : Named → List Value → Symbol → Fitting
named_with n body s = fitting (row.Named n s) [] body

-- `(block N body)`, `(return-from N [E])`
abbrev pub named_row : Named → List Value → Option Fitting
named_row n [] = None
named_row n (s ∷ body) = if may_follow n body then option_map (named_with n body) (symbol_of s) else None

abbrev pub held_with : Holder → List Value → List Value → Symbol → Fitting
held_with h lead body v = fitting (row.Held h v) lead body

abbrev pub counted : Holder → List Value → List Value → Option Fitting
counted h body (v ∷ e ∷ []) = option_map (held_with h (e ∷ []) body) (variable_of v)
counted h body _ = None

-- `(dotimes (V E) body)` and `(dolist (V E) body)`
abbrev pub counter_row : Holder → List Value → Option Fitting
counter_row h (c ∷ body) = option_and_then (counted h body) (value_items c)
counter_row h [] = None

-- `(defvar V [E])` and `(defparameter V E)`
abbrev pub declared_row : Holder → List Value → Option Fitting
declared_row h (v ∷ body) = if may_hold h body then option_map (held_with h [] body) (variable_of v) else None
declared_row h [] = None

abbrev pub held_row : Holder → List Value → Option Fitting
held_row holder.DoTimes parts = counter_row holder.DoTimes parts
held_row holder.DoList parts = counter_row holder.DoList parts
held_row holder.Defvar parts = declared_row holder.Defvar parts
held_row holder.Defparameter parts = declared_row holder.Defparameter parts

abbrev pub let_with : (List Binding → Row) → List Value → List Binding × List Value → Fitting
let_with r body bs = fitting (r bs.0) bs.1 body

-- `(let (B..) body)` and `(let* (B..) body)`
abbrev pub let_row : (List Binding → Row) → List Value → Option Fitting
let_row r (bs ∷ body) = option_map (let_with r body) (option_and_then (each_with binding_of) (value_items bs))
let_row r [] = None

abbrev pub setq_with : List Symbol × List Value → Fitting
setq_with vs = fitting (row.Setq vs.0) vs.1 []

-- `(setq V E ..)`
abbrev pub setq_row : List Value → Option Fitting
setq_row parts = option_map setq_with (assignments_of parts)

-- `(defun F (P..) body)`
abbrev pub defun_row : List Value → Option Fitting
defun_row (f ∷ ps ∷ body) = both (λ name parameters. fitting (row.Defun name parameters) [] body) (variable_of f) (option_and_then parameters_of (value_items ps))
defun_row _ = None

abbrev pub handlers_with : List Value → List TypeId × List Value → Fitting
handlers_with body hs = fitting (row.HandlerBind hs.0) hs.1 body

-- `(handler-bind ((TYPE E)..) body)`
abbrev pub handler_bind_row : List Value → Option Fitting
handler_bind_row (hs ∷ body) = option_map (handlers_with body) (option_and_then (each_with handler_of) (value_items hs))
handler_bind_row [] = None

abbrev pub controlled : List Value → List Value → Option Fitting
controlled body (n ∷ text ∷ es) = both (λ name control. fitting (row.WithSimpleRestart name control (length es)) es body) (symbol_of n) (value_text text)
controlled body _ = None

-- `(with-simple-restart (N CONTROL ARG..) body)`
abbrev pub with_simple_restart_row : List Value → Option Fitting
with_simple_restart_row (c ∷ body) = option_and_then (controlled body) (value_items c)
with_simple_restart_row [] = None

-- `(in-package P)`
abbrev pub in_package_row : List Value → Option Fitting
in_package_row (p ∷ []) = option_map (λ d. fitting (row.InPackage d) [] []) (designator_of p)
in_package_row _ = None

abbrev pub package_with : Designator → Option (List Designator) × Option (List Designator) → Fitting
package_with name options = fitting (row.Defpackage name options.0 options.1) [] []

-- `(defpackage P [(:use P..)] [(:export P..)])`
abbrev pub defpackage_row : List Value → Option Fitting
defpackage_row (p ∷ options) = both package_with (designator_of p) (options_of options)
defpackage_row [] = None

-- ---- the table

-- the row of an operator's form with these parts
abbrev pub operation_row : Operator → List Value → Option Fitting
operation_row op.Quote parts = quote_row parts
operation_row op.Function parts = function_row parts
operation_row (op.Bare b) parts = bare_row b parts
operation_row op.Block parts = named_row named.Block parts
operation_row op.ReturnFrom parts = named_row named.ReturnFrom parts
operation_row (op.Held h) parts = held_row h parts
operation_row op.Let parts = let_row row.Let parts
operation_row op.LetStar parts = let_row row.LetStar parts
operation_row op.Setq parts = setq_row parts
operation_row op.Defun parts = defun_row parts
operation_row op.HandlerBind parts = handler_bind_row parts
operation_row op.WithSimpleRestart parts = with_simple_restart_row parts
operation_row op.InPackage parts = in_package_row parts
operation_row op.Defpackage parts = defpackage_row parts

-- the row of a form that the symbol heads: an operator's, or a call of any other symbol
abbrev pub symbol_row : Symbol → Option Operator → List Value → Option Fitting
symbol_row s None parts = Some (named_with named.Call parts s)
symbol_row s (Some o) parts = operation_row o parts

abbrev pub headed_row : Option Symbol → List Value → Option Fitting
headed_row None parts = None
headed_row (Some s) parts = symbol_row s (operator_of s) parts

-- a keyword and T stand for themselves; a variable is one that may be read
abbrev pub name_row : Value → Symbol → Option Fitting
name_row v s =
    if is_keyword s || names s (codes "T") then Some (fitting (row.Literal v) [] [])
    else (if is_readable s then Some (fitting (row.Variable s) [] []) else None)

abbrev pub form_row_in : Value → Value-F Value Condition → Option Fitting
form_row_in v (Value-F.Sym s) = name_row v s
form_row_in v (Value-F.List (head ∷ parts)) = headed_row (symbol_of head) parts
form_row_in v _ = Some (fitting (row.Literal v) [] [])

abbrev pub form_row : Value → Option Fitting
form_row v = form_row_in v (out-Value v)

-- the row of a value that is read as a form or as a clause, None where no row of the syntax fits it
unfoldable pub row_of : Sort → Value → Option Fitting
row_of sort.Form v = form_row v
row_of sort.CondClause v = cond_clause_of v
row_of sort.HandlerClause v = handler_clause_of v
row_of sort.RestartClause v = restart_clause_of v
