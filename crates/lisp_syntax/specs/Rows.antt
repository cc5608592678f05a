-- The form of each row of the syntax, and which subforms fit the row (HyperSpec 3.1.2.1.2 and the entries of the operators).
use Rattle.std.specs.Prelude.{◌≡◌, ℕ, leb, eqb, Bool, true, false, not, ◌&&◌, ◌||◌, ◌++◌, take, drop, length, List, [], ◌∷◌, codes, Option, Some, None}
use Rattle.std.specs.List.{list_all}
use Rattle.lisp_data.specs.declared.symbol.Symbol.{Symbol}
use Rattle.lisp_data.specs.declared.type_id.TypeId.{TypeId}
use Rattle.lisp_data.specs.declared.value.Value.{Value}
use Rattle.lisp_data.specs.declared.value.Value as value
use Rattle.lisp_data.specs.declared.value.Value.TheOpen.{Value-F}
use Rattle.lisp_data.specs.declared.value.Value.TheViews.{out-Value}
use Rattle.lisp_data.specs.declared.value.Condition.{Condition}
use Rattle.lisp_data.specs.Parts.{nil}
use Rattle.lisp_data.specs.Symbols.{cl, is_keyword, is_nil, names, value_of_symbol}
use Rattle.lisp_syntax.specs.Symbols.{is_readable, is_variable}
use Rattle.syntax_trees.specs.declared.row.Bare.{Bare}
use Rattle.syntax_trees.specs.declared.row.Bare.TheVariants as bare
use Rattle.syntax_trees.specs.declared.row.Named.{Named}
use Rattle.syntax_trees.specs.declared.row.Named.TheVariants as named
use Rattle.syntax_trees.specs.declared.row.Holder.{Holder}
use Rattle.syntax_trees.specs.declared.row.Holder.TheVariants as holder
use Rattle.syntax_trees.specs.declared.row.Init.{Init}
use Rattle.syntax_trees.specs.declared.row.Init.TheVariants as init
use Rattle.syntax_trees.specs.declared.row.Binding.{Binding}
use Rattle.syntax_trees.specs.declared.row.Row.{Row}
use Rattle.syntax_trees.specs.declared.row.Row.TheVariants as row
use Rattle.lisp_syntax.specs.declared.operator.Operator.{Operator}
use Rattle.lisp_syntax.specs.declared.operator.Operator.TheVariants as op
use Rattle.lisp_syntax.specs.declared.sort.Sort.{Sort}
use Rattle.lisp_syntax.specs.declared.sort.Sort.TheVariants as sort
use Rattle.lisp_syntax.specs.Operators.{name_of, operator_of}
use Rattle.lisp_syntax.specs.Parts.{Each, type_form, is_condition_type, at_most_one_form, variables_form, report_forms, IsReported, parameter_forms, AreParameters, designator_form, options_forms, Given, is_symbol}

-- A row with subforms in the order in which they are written: first those that stand in the head of the form, as those of bindings do,
-- and then its body.
pub record Fitting : Type 0 where
  pub row : Row
  pub lead : List Value
  pub body : List Value

abbrev pub fitting : Row → List Value → List Value → Fitting
fitting r lead body = record { row = r; lead = lead; body = body }

abbrev pub forms_of : Fitting → List Value
forms_of f = f.lead ++ f.body

-- ---- where the subforms stand

-- how many subforms stand before the body
abbrev pub bare_lead : Bare → ℕ
bare_lead bare.HandlerCase = 1
bare_lead bare.RestartCase = 1
bare_lead _ = 0

abbrev pub holder_lead : Holder → ℕ
holder_lead holder.DoTimes = 1
holder_lead holder.DoList = 1
holder_lead _ = 0

abbrev pub lead_of : Row → ℕ
lead_of (row.Bare b) = bare_lead b
lead_of (row.Held h v) = holder_lead h
lead_of (row.Let bindings) = length bindings
lead_of (row.LetStar bindings) = length bindings
lead_of (row.Setq variables) = length variables
lead_of (row.HandlerBind kinds) = length kinds
lead_of (row.WithSimpleRestart n control arguments) = arguments
lead_of _ = 0

-- the row with all of its subforms in one list
abbrev pub fitted : Row → List Value → Fitting
fitted r forms = fitting r (take (lead_of r) forms) (drop (lead_of r) forms)

abbrev pub bare_sort : Bare → Sort
bare_sort bare.Cond = sort.CondClause
bare_sort bare.HandlerCase = sort.HandlerClause
bare_sort bare.RestartCase = sort.RestartClause
bare_sort _ = sort.Form

-- as what the subforms of the body are read
abbrev pub body_sort : Row → Sort
body_sort (row.Bare b) = bare_sort b
body_sort _ = sort.Form

-- ---- the form of each row

-- `V`, `(V)` or `(V E)`
abbrev pub bound_form : Symbol → Init → Value → Value
bound_form v init.Bare e = value.Sym v
bound_form v init.Empty e = value.List (value.Sym v ∷ [])
bound_form v init.Form e = value.List (value.Sym v ∷ e ∷ [])

abbrev pub binding_form : Binding → Value → Value
binding_form b e = bound_form b.variable b.init e

-- `(TYPE E)`
abbrev pub handler_form : TypeId → Value → Value
handler_form t e = value.List (type_form t ∷ e ∷ [])

-- what each item has the form of, with its subform
abbrev pub spread : {A : Type 0} → (A → Value → Value) → List A → List Value → List Value
spread form [] es = []
spread form (x ∷ xs) [] = []
spread form (x ∷ xs) (e ∷ es) = form x e ∷ spread form xs es

-- `V E`, without parentheses
abbrev pub assignment_forms : List Symbol → List Value → List Value
assignment_forms [] es = []
assignment_forms (v ∷ vs) [] = []
assignment_forms (v ∷ vs) (e ∷ es) = value.Sym v ∷ e ∷ assignment_forms vs es

abbrev pub operator_symbol : Operator → Value
operator_symbol o = value.Sym (cl (name_of o))

abbrev pub named_head : Named → Symbol → List Value
named_head named.Block n = operator_symbol op.Block ∷ value_of_symbol n ∷ []
named_head named.ReturnFrom n = operator_symbol op.ReturnFrom ∷ value_of_symbol n ∷ []
named_head named.Call n = value_of_symbol n ∷ []

abbrev pub held_head : Holder → Symbol → List Value → List Value
held_head holder.DoTimes v lead = operator_symbol (op.Held holder.DoTimes) ∷ value.List (value.Sym v ∷ lead) ∷ []
held_head holder.DoList v lead = operator_symbol (op.Held holder.DoList) ∷ value.List (value.Sym v ∷ lead) ∷ []
held_head h v lead = operator_symbol (op.Held h) ∷ value.Sym v ∷ []

-- what stands in the form before its body
abbrev pub head_of : Row → List Value → List Value
head_of (row.Literal v) lead = []
head_of (row.Variable v) lead = []
head_of (row.Quote v) lead = operator_symbol op.Quote ∷ v ∷ []
head_of (row.Function f) lead = operator_symbol op.Function ∷ value_of_symbol f ∷ []
head_of (row.Bare b) lead = operator_symbol (op.Bare b) ∷ lead
head_of (row.Named n s) lead = named_head n s
head_of (row.Held h v) lead = held_head h v lead
head_of (row.Let bindings) lead = operator_symbol op.Let ∷ value.List (spread binding_form bindings lead) ∷ []
head_of (row.LetStar bindings) lead = operator_symbol op.LetStar ∷ value.List (spread binding_form bindings lead) ∷ []
head_of (row.Setq variables) lead = operator_symbol op.Setq ∷ assignment_forms variables lead
head_of (row.Defun f parameters) lead = operator_symbol op.Defun ∷ value.Sym f ∷ value.List (parameter_forms parameters) ∷ []
head_of (row.HandlerBind kinds) lead = operator_symbol op.HandlerBind ∷ value.List (spread handler_form kinds lead) ∷ []
head_of (row.WithSimpleRestart n control arguments) lead = operator_symbol op.WithSimpleRestart ∷ value.List (value_of_symbol n ∷ value.Str control ∷ lead) ∷ []
head_of (row.InPackage p) lead = operator_symbol op.InPackage ∷ designator_form p ∷ []
head_of (row.Defpackage p uses exports) lead = operator_symbol op.Defpackage ∷ designator_form p ∷ options_forms (uses, exports)
head_of row.CondClause lead = []
head_of (row.HandlerClause t v) lead = type_form t ∷ at_most_one_form v ∷ []
head_of (row.RestartClause n vs report) lead = value.Sym n ∷ variables_form vs ∷ report_forms report

-- the form of a row: a list, but for what stands for itself and a variable
abbrev pub row_form : Row → List Value → List Value → Value
row_form (row.Literal v) lead body = v
row_form (row.Variable v) lead body = value.Sym v
row_form r lead body = value.List (head_of r lead ++ body)

abbrev pub form_of : Fitting → Value
form_of f = row_form f.row f.lead f.body

-- the items of a row's form, with all of its subforms in one list
abbrev pub row_items : Row → List Value → List Value
row_items r forms = head_of r (take (lead_of r) forms) ++ drop (lead_of r) forms

-- ---- which subforms fit

-- at least how many subforms
abbrev pub few : Bare → ℕ
few bare.If = 2
few bare.When = 1
few bare.Unless = 1
few bare.Catch = 1
few bare.Throw = 2
few bare.UnwindProtect = 1
few bare.HandlerCase = 1
few bare.RestartCase = 1
few _ = 0

-- at most how many, None where any number may stand
abbrev pub many : Bare → Option ℕ
many bare.If = Some 3
many bare.Return = Some 1
many bare.Throw = Some 2
many _ = None

abbrev pub within : ℕ → Option ℕ → Bool
within n None = true
within n (Some most) = leb n most

-- so many subforms
abbrev pub is_count : Bare → ℕ → Bool
is_count b n = leb (few b) n && within n (many b)

-- at most one form behind the symbol of `return-from`
abbrev pub may_follow : Named → List Value → Bool
may_follow named.ReturnFrom body = leb (length body) 1
may_follow _ body = true

-- any number of forms in a loop, else one, or none for `defvar`
abbrev pub may_hold : Holder → List Value → Bool
may_hold holder.Defvar body = leb (length body) 1
may_hold holder.Defparameter body = eqb (length body) 1
may_hold _ body = true

abbrev pub is_self_in : Value-F Value Condition → Bool
is_self_in (Value-F.Sym s) = is_keyword s || names s (codes "T")
is_self_in (Value-F.List (x ∷ xs)) = false
is_self_in _ = true

-- an integer, a string, a condition, a keyword, T and NIL stand for themselves
unfoldable pub is_self : Value → Bool
is_self v = is_self_in (out-Value v)

-- a form where one is written, else NIL
abbrev pub IsWritten : Init → Value → Type 0
IsWritten init.Form e = Unit {0}
IsWritten _ e = e ≡ nil

-- it holds of each item with its subform, of which there are as many
abbrev pub EachWith : {A : Type 0} → (A → Value → Type 0) → List A → List Value → Type 0
EachWith P [] [] = Unit {0}
EachWith P (x ∷ xs) (e ∷ es) = P x e × EachWith P xs es
EachWith P _ _ = ⊥

abbrev pub IsBinding : Binding → Value → Type 0
IsBinding b e = (is_readable b.variable ≡ true) × IsWritten b.init e

abbrev pub IsAssigned : Symbol → Value → Type 0
IsAssigned v e = is_readable v ≡ true

abbrev pub IsHandled : TypeId → Value → Type 0
IsHandled t e = is_condition_type t ≡ true

abbrev pub IsVariable : Symbol → Type 0
IsVariable v = is_variable v ≡ true

-- `(C body)`, `(TYPE ([V]) body)` and `(N (V..) [:report "TEXT"] body)`: which subforms fit the rows of clauses
abbrev pub IsClause : Sort → Row → List Value → List Value → Type 0
IsClause sort.CondClause row.CondClause [] (test ∷ body) = Unit {0}
IsClause sort.HandlerClause (row.HandlerClause t v) [] body = (is_condition_type t ≡ true) × Given IsVariable v
IsClause sort.RestartClause (row.RestartClause n vs report) [] body = (is_nil n ≡ false) × Each IsVariable vs × IsReported report body
IsClause _ _ _ _ = ⊥

-- the value is a clause of this sort
pub record FitsClause (s : Sort) (v : Value) : Type 0 where
  pub clause : Fitting
  pub form : form_of clause ≡ v
  pub fits : IsClause s clause.row clause.lead clause.body

-- no form of a loop is a symbol, and all clauses are of the operator's own shape
abbrev pub AreBare : Bare → List Value → Type 0
AreBare bare.Loop body = list_all (λ e. not (is_symbol e)) body ≡ true
AreBare bare.Cond body = Each (FitsClause sort.CondClause) body
AreBare bare.HandlerCase body = Each (FitsClause sort.HandlerClause) body
AreBare bare.RestartCase body = Each (FitsClause sort.RestartClause) body
AreBare _ body = Unit {0}

-- only a symbol that is no operator heads a call
abbrev pub IsNamed : Named → Symbol → List Value → Type 0
IsNamed named.Call s body = operator_of s ≡ None
IsNamed n s body = may_follow n body ≡ true

-- which subforms fit the rows of forms
abbrev pub IsForm : Row → List Value → List Value → Type 0
IsForm (row.Literal v) [] [] = is_self v ≡ true
IsForm (row.Quote v) [] [] = Unit {0}
IsForm (row.Variable v) [] [] = is_readable v ≡ true
IsForm (row.Function f) [] [] = Unit {0}
IsForm (row.Bare b) lead body = (length lead ≡ bare_lead b) × (is_count b (length (lead ++ body)) ≡ true) × AreBare b body
IsForm (row.Named n s) [] body = IsNamed n s body
IsForm (row.Held h v) lead body = (length lead ≡ holder_lead h) × IsVariable v × (may_hold h body ≡ true)
IsForm (row.Let bindings) lead body = EachWith IsBinding bindings lead
IsForm (row.LetStar bindings) lead body = EachWith IsBinding bindings lead
IsForm (row.Setq variables) lead [] = EachWith IsAssigned variables lead
IsForm (row.Defun f parameters) [] body = IsVariable f × AreParameters parameters
IsForm (row.HandlerBind kinds) lead body = EachWith IsHandled kinds lead
IsForm (row.WithSimpleRestart n control arguments) lead body = length lead ≡ arguments
IsForm (row.InPackage p) [] [] = Unit {0}
IsForm (row.Defpackage p uses exports) [] [] = Unit {0}
IsForm _ _ _ = ⊥

-- the subforms fit the row, which is one of this sort
abbrev pub IsRow : Sort → Fitting → Type 0
IsRow sort.Form f = IsForm f.row f.lead f.body
IsRow s f = IsClause s f.row f.lead f.body
