-- A row is found in a form exactly where it has that form and its subforms fit.
use Rattle.std.proofs.Common.{◌≡◌, ◌↔◌, arith, ℕ, Bool, true, false, ◌&&◌, ◌||◌, List, [], ◌∷◌, ◌++◌, length, take, drop, refl, sym, ap, subst, ◌∙◌}
use Rattle.std.specs.Prelude.{Option, Some, None, option_map, option_and_then, if◌then◌else◌, codes}
use Rattle.std.proofs.lemmas.Bool.{and_parts}
use Rattle.std.proofs.lemmas.List.{append-nil, take-append-drop}
use Rattle.lisp_data.specs.declared.symbol.Symbol.{Symbol}
use Rattle.lisp_data.specs.declared.value.Value.{Value}
use Rattle.lisp_data.specs.declared.value.Value as value
use Rattle.lisp_data.specs.declared.value.Value.TheOpen.{Value-F}
use Rattle.lisp_data.specs.declared.value.Value.TheViews.{out-Value}
use Rattle.lisp_data.specs.declared.value.Condition.{Condition}
use Rattle.lisp_data.specs.Parts.{value_items, value_text}
use Rattle.lisp_data.specs.Symbols.{cl, is_keyword, names, value_of_symbol}
use Rattle.syntax_trees.specs.declared.row.Bare.{Bare}
use Rattle.syntax_trees.specs.declared.row.Bare.TheVariants as bare
use Rattle.syntax_trees.specs.declared.row.Named.{Named}
use Rattle.syntax_trees.specs.declared.row.Named.TheVariants as named
use Rattle.syntax_trees.specs.declared.row.Holder.{Holder}
use Rattle.syntax_trees.specs.declared.row.Holder.TheVariants as holder
use Rattle.syntax_trees.specs.declared.row.Binding.{Binding}
use Rattle.syntax_trees.specs.declared.row.Parameters.{Parameters}
use Rattle.syntax_trees.specs.declared.row.Row.{Row}
use Rattle.syntax_trees.specs.declared.row.Row.TheVariants as row
use Rattle.lisp_syntax.specs.declared.operator.Operator.{Operator}
use Rattle.lisp_syntax.specs.declared.operator.Operator.TheVariants as op
use Rattle.lisp_syntax.specs.declared.sort.Sort.{Sort}
use Rattle.lisp_syntax.specs.declared.sort.Sort.TheVariants as sort
use Rattle.lisp_syntax.specs.Symbols.{is_readable}
use Rattle.lisp_syntax.specs.Operators.{name_of, operator_of}
use Rattle.lisp_syntax.specs.Parts.{symbol_of, variable_of, parameters_of, parameter_forms, AreParameters, designator_of, designator_form, options_of, options_forms}
use Rattle.lisp_syntax.specs.Rows.{Fitting, fitting, fitted, form_of, row_form, operator_symbol, bare_lead, holder_lead, is_count, may_follow, may_hold, is_self_in, is_self, binding_form, handler_form, assignment_forms, spread, EachWith, IsBinding, IsHandled, AreBare, IsNamed, IsForm, IsRow, IsVariable}
use Rattle.lisp_syntax.specs.Table.{cond_clause_of, handler_clause_of, restart_clause_of, each_with, binding_of, assignments_of, handler_of, quote_row, function_with, function_row, are_bare, bare_row, named_with, named_row, held_with, counted, counter_row, declared_row, held_row, let_with, let_row, setq_with, setq_row, defun_row, handlers_with, handler_bind_row, controlled, with_simple_restart_row, in_package_row, package_with, defpackage_row, operation_row, symbol_row, headed_row, form_row_in, form_row, row_of}
use Rattle.lisp_syntax.proofs.Options.{Exact, mapped, chained, joined, chosen, some-same, choose, pass, both-whole}
use Rattle.lisp_syntax.proofs.Levels.{from-symbol, from-list, out-symbol, out-list}
use Rattle.lisp_syntax.proofs.Words.{list-back, list-whole, string-back, string-whole, variable-exact, symbol-exact}
use Rattle.lisp_syntax.proofs.Lists.{listed-exact, parameters-exact, designator-exact, options-exact}
use Rattle.lisp_syntax.proofs.ClauseLemmas.{cond-exact, handler-clause-exact, restart-clause-exact, clauses-fit, clauses-whole, both-true, with-exact, binding-exact, handler-exact, assignments-exact}
use Rattle.lisp_syntax.proofs.Names.{operator-form, operator-found, operator-back, readable-no-self}
use Rattle.lisp_syntax.proofs.FormRows.{operation, bindings-exact, handlers-exact, listed-parameters-exact, split-at, setq-form, defun_with, control_with, form-at}

-- ---- what fits is found

headed-whole : (s : Symbol) (o : Option Operator) (parts : List Value) → operator_of s ≡ o → form_row (value.List (value_of_symbol s ∷ parts)) ≡ symbol_row s o parts
headed-whole s o parts e =
    let head = value_of_symbol s in
    ap (form_row_in (value.List (head ∷ parts))) (out-list (head ∷ parts))
    ∙ (ap (λ x. headed_row x parts) (symbol-exact.whole s tt)
    ∙ ap (λ x. symbol_row s x parts) e)

operation-whole : (o : Operator) (parts : List Value) → form_row (operation o parts) ≡ operation_row o parts
operation-whole o parts = ap (λ x. form_row (value.List (x ∷ parts))) (sym (operator-form o)) ∙ headed-whole (cl (name_of o)) (Some o) parts (operator-found o)

bare-whole : (b : Bare) (body : List Value) → AreBare b body → are_bare b body ≡ true
bare-whole bare.Loop body e = e
bare-whole bare.Cond body e = clauses-whole sort.CondClause cond_clause_of cond-exact body e
bare-whole bare.HandlerCase body e = clauses-whole sort.HandlerClause handler_clause_of handler-clause-exact body e
bare-whole bare.RestartCase body e = clauses-whole sort.RestartClause restart_clause_of restart-clause-exact body e
bare-whole _ body e = refl

bare-row-whole : (b : Bare) (lead body : List Value) → IsForm (row.Bare b) lead body → bare_row b (lead ++ body) ≡ Some (fitting (row.Bare b) lead body)
bare-row-whole b lead body f =
    let split = split-at (row.Bare b) (bare_lead b) lead body f.0 in
    choose (is_count b (length (lead ++ body)) && are_bare b (fitted (row.Bare b) (lead ++ body)).body) (Some (fitted (row.Bare b) (lead ++ body))) None
    (both-true (is_count b (length (lead ++ body))) (are_bare b (fitted (row.Bare b) (lead ++ body)).body) f.1 (ap (λ x. are_bare b x.body) split ∙ bare-whole b body f.2))
    ∙ ap Some split

named-whole : (n : Named) (s : Symbol) (body : List Value) → may_follow n body ≡ true → named_row n (value_of_symbol s ∷ body) ≡ Some (named_with n body s)
named-whole n s body e =
    choose (may_follow n body) (option_map (named_with n body) (symbol_of (value_of_symbol s))) None e
    ∙ ap (option_map (named_with n body)) (symbol-exact.whole s tt)

counter-whole : (h : Holder) (v : Symbol) (x : Value) (body : List Value) → IsVariable v → counter_row h (value.List (value.Sym v ∷ x ∷ []) ∷ body) ≡ Some (held_with h (x ∷ []) body v)
counter-whole h v x body e =
    ap (option_and_then (counted h body)) (list-whole (value.Sym v ∷ x ∷ []))
    ∙ ap (option_map (held_with h (x ∷ []) body)) (variable-exact.whole v e)

declared-whole : (h : Holder) (v : Symbol) (body : List Value) → IsVariable v → may_hold h body ≡ true → declared_row h (value.Sym v ∷ body) ≡ Some (held_with h [] body v)
declared-whole h v body e holds =
    choose (may_hold h body) (option_map (held_with h [] body) (variable_of (value.Sym v))) None holds
    ∙ ap (option_map (held_with h [] body)) (variable-exact.whole v e)

held-whole : (h : Holder) (v : Symbol) (lead body : List Value) → IsForm (row.Held h v) lead body → form_row (row_form (row.Held h v) lead body) ≡ Some (fitting (row.Held h v) lead body)
held-whole holder.DoTimes v [] body f = absurd (cc (f.0))
held-whole holder.DoTimes v (x ∷ []) body f = operation-whole (op.Held holder.DoTimes) (value.List (value.Sym v ∷ x ∷ []) ∷ body) ∙ counter-whole holder.DoTimes v x body f.1
held-whole holder.DoTimes v (x ∷ y ∷ more) body f = absurd (omega (arith, f.0))
held-whole holder.DoList v [] body f = absurd (cc (f.0))
held-whole holder.DoList v (x ∷ []) body f = operation-whole (op.Held holder.DoList) (value.List (value.Sym v ∷ x ∷ []) ∷ body) ∙ counter-whole holder.DoList v x body f.1
held-whole holder.DoList v (x ∷ y ∷ more) body f = absurd (omega (arith, f.0))
held-whole holder.Defvar v [] body f = operation-whole (op.Held holder.Defvar) (value.Sym v ∷ body) ∙ declared-whole holder.Defvar v body f.1 f.2
held-whole holder.Defvar v (x ∷ more) body f = absurd (omega (arith, f.0))
held-whole holder.Defparameter v [] body f = operation-whole (op.Held holder.Defparameter) (value.Sym v ∷ body) ∙ declared-whole holder.Defparameter v body f.1 f.2
held-whole holder.Defparameter v (x ∷ more) body f = absurd (omega (arith, f.0))

name-whole : (n : Named) (s : Symbol) (body : List Value) → IsNamed n s body → form_row (row_form (row.Named n s) [] body) ≡ Some (named_with n body s)
name-whole named.Block s body f = operation-whole op.Block (value_of_symbol s ∷ body) ∙ named-whole named.Block s body f
name-whole named.ReturnFrom s body f = operation-whole op.ReturnFrom (value_of_symbol s ∷ body) ∙ named-whole named.ReturnFrom s body f
name-whole named.Call s body f = headed-whole s None body f

let-whole : (r : List Binding → Row) (bs : List Binding) (lead body : List Value) → EachWith IsBinding bs lead → let_row r (value.List (spread binding_form bs lead) ∷ body) ≡ Some (fitting (r bs) lead body)
let-whole r bs lead body f = ap (option_map (let_with r body)) (bindings-exact.whole (bs, lead) f)

self-at : (v : Value) (o : Value-F Value Condition) → is_self_in o ≡ true → form_row_in v o ≡ Some (fitting (row.Literal v) [] [])
self-at v (Value-F.Sym s) f = choose (is_keyword s || names s (codes "T")) (Some (fitting (row.Literal v) [] [])) (if is_readable s then Some (fitting (row.Variable s) [] []) else None) f
self-at v (Value-F.List []) f = refl
self-at v (Value-F.List (x ∷ xs)) f = absurd (cc)
self-at v (Value-F.Int n) f = refl
self-at v (Value-F.Str text) f = refl
self-at v (Value-F.Cond c) f = refl

self-whole : (v : Value) → is_self v ≡ true → form_row v ≡ Some (fitting (row.Literal v) [] [])
unfolding is_self
self-whole v f = self-at v (out-Value v) f

variable-whole : (s : Symbol) → is_readable s ≡ true → form_row (value.Sym s) ≡ Some (fitting (row.Variable s) [] [])
variable-whole s f =
    ap (form_row_in (value.Sym s)) (out-symbol s)
    ∙ (pass (is_keyword s || names s (codes "T")) (Some (fitting (row.Literal (value.Sym s)) [] [])) (if is_readable s then Some (fitting (row.Variable s) [] []) else None) (readable-no-self s f)
    ∙ choose (is_readable s) (Some (fitting (row.Variable s) [] [])) None f)

control-whole : (n : Symbol) (control : List ℕ) (arguments : ℕ) (lead body : List Value) → length lead ≡ arguments → with_simple_restart_row (value.List (value_of_symbol n ∷ value.Str control ∷ lead) ∷ body) ≡ Some (fitting (row.WithSimpleRestart n control arguments) lead body)
control-whole n control arguments lead body f =
    ap (option_and_then (controlled body)) (list-whole (value_of_symbol n ∷ value.Str control ∷ lead))
    ∙ (both-whole (control_with lead body) (symbol_of (value_of_symbol n)) (value_text (value.Str control)) n control (symbol-exact.whole n tt) (string-whole control)
    ∙ ap (λ k. Some (fitting (row.WithSimpleRestart n control k) lead body)) f)

form-whole : (r : Row) (lead body : List Value) → IsForm r lead body → form_row (row_form r lead body) ≡ Some (fitting r lead body)
form-whole (row.Literal v) [] [] f = self-whole v f
form-whole (row.Quote v) [] [] f = operation-whole op.Quote (v ∷ [])
form-whole (row.Variable v) [] [] f = variable-whole v f
form-whole (row.Function s) [] [] f = operation-whole op.Function (value_of_symbol s ∷ []) ∙ ap (option_map function_with) (symbol-exact.whole s tt)
form-whole (row.Bare b) lead body f = operation-whole (op.Bare b) (lead ++ body) ∙ bare-row-whole b lead body f
form-whole (row.Named n s) [] body f = name-whole n s body f
form-whole (row.Held h v) lead body f = held-whole h v lead body f
form-whole (row.Let bs) lead body f = operation-whole op.Let (value.List (spread binding_form bs lead) ∷ body) ∙ let-whole row.Let bs lead body f
form-whole (row.LetStar bs) lead body f = operation-whole op.LetStar (value.List (spread binding_form bs lead) ∷ body) ∙ let-whole row.LetStar bs lead body f
form-whole (row.Setq vs) lead [] f =
    ap form_row (setq-form vs lead)
    ∙ (operation-whole op.Setq (assignment_forms vs lead)
    ∙ ap (option_map setq_with) (assignments-exact.whole (vs, lead) f))
form-whole (row.Defun x ps) [] body f =
    operation-whole op.Defun (value.Sym x ∷ value.List (parameter_forms ps) ∷ body)
    ∙ both-whole (defun_with body) (variable_of (value.Sym x)) (option_and_then parameters_of (value_items (value.List (parameter_forms ps)))) x ps (variable-exact.whole x f.0) (listed-parameters-exact.whole ps f.1)
form-whole (row.HandlerBind ks) lead body f =
    operation-whole op.HandlerBind (value.List (spread handler_form ks lead) ∷ body)
    ∙ ap (option_map (handlers_with body)) (handlers-exact.whole (ks, lead) f)
form-whole (row.WithSimpleRestart n control arguments) lead body f =
    operation-whole op.WithSimpleRestart (value.List (value_of_symbol n ∷ value.Str control ∷ lead) ∷ body) ∙ control-whole n control arguments lead body f
form-whole (row.InPackage p) [] [] f =
    operation-whole op.InPackage (designator_form p ∷ []) ∙ ap (option_map (λ d. fitting (row.InPackage d) [] [])) (designator-exact.whole p tt)
form-whole (row.Defpackage p uses exports) [] [] f =
    ap (λ ys. form_row (operation op.Defpackage (designator_form p ∷ ys))) (append-nil (options_forms (uses, exports)))
    ∙ (operation-whole op.Defpackage (designator_form p ∷ options_forms (uses, exports))
    ∙ both-whole package_with (designator_of (designator_form p)) (options_of (options_forms (uses, exports))) p (uses, exports) (designator-exact.whole p tt) (options-exact.whole (uses, exports) tt))
form-whole _ _ _ f = absurd f

-- ---- both ways

pub row-made : (s : Sort) (v : Value) (f : Fitting) → row_of s v ≡ Some f → (form_of f ≡ v) × IsRow s f
unfolding row_of
row-made sort.Form v f e = form-at v (out-Value v) refl f e
row-made sort.CondClause v f e = (cond-exact.back v f e, cond-exact.fits v f e)
row-made sort.HandlerClause v f e = (handler-clause-exact.back v f e, handler-clause-exact.fits v f e)
row-made sort.RestartClause v f e = (restart-clause-exact.back v f e, restart-clause-exact.fits v f e)

row-whole : (s : Sort) (f : Fitting) → IsRow s f → row_of s (form_of f) ≡ Some f
unfolding row_of
row-whole sort.Form f p = form-whole f.row f.lead f.body p
row-whole sort.CondClause f p = cond-exact.whole f p
row-whole sort.HandlerClause f p = handler-clause-exact.whole f p
row-whole sort.RestartClause f p = restart-clause-exact.whole f p

pub rows-iff : (s : Sort) (v : Value) (f : Fitting) → (row_of s v ≡ Some f) ↔ ((form_of f ≡ v) × IsRow s f)
rows-iff s v f = (row-made s v f, λ p. ap (row_of s) (sym p.0) ∙ row-whole s f p.1)
