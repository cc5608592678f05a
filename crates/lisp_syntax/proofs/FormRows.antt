-- A row that is found in a form has that form, and its subforms fit.
use Rattle.std.proofs.Common.{◌≡◌, ◌↔◌, arith, ℕ, Bool, true, false, ◌&&◌, ◌||◌, List, [], ◌∷◌, ◌++◌, length, take, drop, refl, sym, ap, subst, ◌∙◌}
use Rattle.std.specs.Prelude.{Option, Some, None, option_map, option_and_then, if◌then◌else◌, codes}
use Rattle.std.proofs.lemmas.Bool.{and_parts}
use Rattle.std.proofs.lemmas.List.{append-nil, take-append-drop}
use Rattle.lisp_data.specs.declared.symbol.Symbol.{Symbol}
use Rattle.lisp_data.specs.declared.value.Value.{Value}
use Rattle.lisp_data.specs.declared.value.Value as value
use Rattle.lisp_data.specs.declared.value.Value.TheOpen.{Value-F}
use Rattle.lisp_data.specs.declared.value.Value.TheViews.{out-Value}
use Rattle.lisp_data.specs.declared.value.Condition.{Condition}
use Rattle.lisp_data.specs.Parts.{value_items, value_text}
use Rattle.lisp_data.specs.Symbols.{cl, is_keyword, names, value_of_symbol}
use Rattle.syntax_trees.specs.declared.row.Bare.{Bare}
use Rattle.syntax_trees.specs.declared.row.Bare.TheVariants as bare
use Rattle.syntax_trees.specs.declared.row.Named.{Named}
use Rattle.syntax_trees.specs.declared.row.Named.TheVariants as named
use Rattle.syntax_trees.specs.declared.row.Holder.{Holder}
use Rattle.syntax_trees.specs.declared.row.Holder.TheVariants as holder
use Rattle.syntax_trees.specs.declared.row.Binding.{Binding}
use Rattle.syntax_trees.specs.declared.row.Parameters.{Parameters}
use Rattle.syntax_trees.specs.declared.row.Row.{Row}
use Rattle.syntax_trees.specs.declared.row.Row.TheVariants as row
use Rattle.lisp_syntax.specs.declared.operator.Operator.{Operator}
use Rattle.lisp_syntax.specs.declared.operator.Operator.TheVariants as op
use Rattle.lisp_syntax.specs.declared.sort.Sort.{Sort}
use Rattle.lisp_syntax.specs.declared.sort.Sort.TheVariants as sort
use Rattle.lisp_syntax.specs.Symbols.{is_readable}
use Rattle.lisp_syntax.specs.Operators.{name_of, operator_of}
use Rattle.lisp_syntax.specs.Parts.{symbol_of, variable_of, parameters_of, parameter_forms, AreParameters, designator_of, designator_form, options_of, options_forms}
use Rattle.lisp_syntax.specs.Rows.{Fitting, fitting, fitted, form_of, row_form, operator_symbol, bare_lead, holder_lead, is_count, may_follow, may_hold, is_self_in, is_self, binding_form, handler_form, assignment_forms, spread, EachWith, IsBinding, IsHandled, AreBare, IsNamed, IsForm, IsRow, IsVariable}
use Rattle.lisp_syntax.specs.Table.{cond_clause_of, handler_clause_of, restart_clause_of, each_with, binding_of, assignments_of, handler_of, quote_row, function_with, function_row, are_bare, bare_row, named_with, named_row, held_with, counted, counter_row, declared_row, held_row, let_with, let_row, setq_with, setq_row, defun_row, handlers_with, handler_bind_row, controlled, with_simple_restart_row, in_package_row, package_with, defpackage_row, operation_row, symbol_row, headed_row, form_row_in, form_row, row_of}
use Rattle.lisp_syntax.proofs.Options.{Exact, mapped, chained, joined, chosen, some-same, choose, pass, both-whole}
use Rattle.lisp_syntax.proofs.Levels.{from-symbol, from-list, out-symbol, out-list}
use Rattle.lisp_syntax.proofs.Words.{list-back, list-whole, string-back, string-whole, variable-exact, symbol-exact}
use Rattle.lisp_syntax.proofs.Lists.{listed-exact, parameters-exact, designator-exact, options-exact}
use Rattle.lisp_syntax.proofs.ClauseLemmas.{cond-exact, handler-clause-exact, restart-clause-exact, clauses-fit, clauses-whole, both-true, with-exact, binding-exact, handler-exact, assignments-exact}
use Rattle.lisp_syntax.proofs.Names.{operator-form, operator-found, operator-back, readable-no-self}

-- the row has the form, and its subforms fit
abbrev pub Made : Value → Fitting → Type 0
Made v f = (form_of f ≡ v) × IsForm f.row f.lead f.body

abbrev pub operation : Operator → List Value → Value
operation o parts = value.List (operator_symbol o ∷ parts)

made : (v : Value) (x f : Fitting) → Some x ≡ Some f → Made v x → Made v f
made v x f e m = subst (Made v) (some-same x f e) m

-- ---- lists of bindings, handlers and parameters

abbrev pub bindings_of : Value → Option (List Binding × List Value)
bindings_of v = option_and_then (each_with binding_of) (value_items v)

pub bindings-exact : Exact bindings_of (λ p. value.List (spread binding_form p.0 p.1)) (λ p. EachWith IsBinding p.0 p.1)
bindings-exact = listed-exact (each_with binding_of) (λ p. spread binding_form p.0 p.1) (λ p. EachWith IsBinding p.0 p.1) (with-exact binding_of binding_form IsBinding binding-exact)

pub handlers-exact : Exact (λ v. option_and_then (each_with handler_of) (value_items v)) (λ p. value.List (spread handler_form p.0 p.1)) (λ p. EachWith IsHandled p.0 p.1)
handlers-exact = listed-exact (each_with handler_of) (λ p. spread handler_form p.0 p.1) (λ p. EachWith IsHandled p.0 p.1) (with-exact handler_of handler_form IsHandled handler-exact)

pub listed-parameters-exact : Exact (λ v. option_and_then parameters_of (value_items v)) (λ p. value.List (parameter_forms p)) AreParameters
listed-parameters-exact = listed-exact parameters_of parameter_forms AreParameters parameters-exact

-- ---- rows whose parts are all subforms

lead-length : (b : Bare) (parts : List Value) → is_count b (length parts) ≡ true → length (take (bare_lead b) parts) ≡ bare_lead b
lead-length bare.HandlerCase [] e = absurd (cc)
lead-length bare.HandlerCase (x ∷ xs) e = refl
lead-length bare.RestartCase [] e = absurd (cc)
lead-length bare.RestartCase (x ∷ xs) e = refl
lead-length _ parts e = refl

bare-fits : (b : Bare) (body : List Value) → are_bare b body ≡ true → AreBare b body
bare-fits bare.Loop body e = e
bare-fits bare.Cond body e = clauses-fit sort.CondClause cond_clause_of cond-exact body e
bare-fits bare.HandlerCase body e = clauses-fit sort.HandlerClause handler_clause_of handler-clause-exact body e
bare-fits bare.RestartCase body e = clauses-fit sort.RestartClause restart_clause_of restart-clause-exact body e
bare-fits _ body e = tt

bare-made : (b : Bare) (parts : List Value) (f : Fitting) → bare_row b parts ≡ Some f → Made (operation (op.Bare b) parts) f
bare-made b parts f e =
    let n = bare_lead b in
    let c = chosen (is_count b (length parts) && are_bare b (drop n parts)) (Some (fitted (row.Bare b) parts)) f e in
    let p = and_parts (is_count b (length parts)) (are_bare b (drop n parts)) c.test in
    let whole : take n parts ++ drop n parts ≡ parts = take-append-drop n parts in
    made (operation (op.Bare b) parts) (fitted (row.Bare b) parts) f c.is (
      ap (operation (op.Bare b)) whole,
      (lead-length b parts p.0, ap (λ xs. is_count b (length xs)) whole ∙ p.0, bare-fits b (drop n parts) p.1),
    )

take-lead : (xs ys : List Value) → take (length xs) (xs ++ ys) ≡ xs
take-lead [] ys = refl
take-lead (x ∷ xs) ys = ap (λ zs. x ∷ zs) (take-lead xs ys)

drop-lead : (xs ys : List Value) → drop (length xs) (xs ++ ys) ≡ ys
drop-lead [] ys = refl
drop-lead (x ∷ xs) ys = drop-lead xs ys

-- a row with all of its subforms in one list is split where its body begins
pub split-at : (r : Row) (n : ℕ) (lead body : List Value) → length lead ≡ n → fitting r (take n (lead ++ body)) (drop n (lead ++ body)) ≡ fitting r lead body
split-at r n lead body is =
    ap (λ m. fitting r (take m (lead ++ body)) (drop m (lead ++ body))) (sym is)
    ∙ (ap (λ xs. fitting r xs (drop (length lead) (lead ++ body))) (take-lead lead body)
    ∙ ap (fitting r lead) (drop-lead lead body))

-- ---- other rows

quote-made : (parts : List Value) (f : Fitting) → quote_row parts ≡ Some f → Made (operation op.Quote parts) f
quote-made [] f e = absurd (cc)
quote-made (x ∷ []) f e = made (operation op.Quote (x ∷ [])) (fitting (row.Quote x) [] []) f e (refl, tt)
quote-made (x ∷ y ∷ more) f e = absurd (cc)

function-made : (parts : List Value) (f : Fitting) → function_row parts ≡ Some f → Made (operation op.Function parts) f
function-made [] f e = absurd (cc)
function-made (x ∷ []) f e =
    let m = mapped function_with (symbol_of x) f e in
    subst (Made (operation op.Function (x ∷ []))) m.is (ap (λ y. operation op.Function (y ∷ [])) (symbol-exact.back x m.x m.was), tt)
function-made (x ∷ y ∷ more) f e = absurd (cc)

named-made : (n : Named) (o : Operator) → ((s : Symbol) (body : List Value) → row_form (row.Named n s) [] body ≡ operation o (value_of_symbol s ∷ body)) → ((s : Symbol) (body : List Value) → may_follow n body ≡ true → IsNamed n s body) → (parts : List Value) (f : Fitting) → named_row n parts ≡ Some f → Made (operation o parts) f
named-made n o is fits [] f e = absurd (cc)
named-made n o is fits (s ∷ body) f e =
    let c = chosen (may_follow n body) (option_map (named_with n body) (symbol_of s)) f e in
    let m = mapped (named_with n body) (symbol_of s) f c.is in
    subst (Made (operation o (s ∷ body))) m.is (is m.x body ∙ ap (λ y. operation o (y ∷ body)) (symbol-exact.back s m.x m.was), fits m.x body c.test)

counted-made : (h : Holder) → ((v : Symbol) (lead body : List Value) → row_form (row.Held h v) lead body ≡ operation (op.Held h) (value.List (value.Sym v ∷ lead) ∷ body)) → holder_lead h ≡ 1 → ((body : List Value) → may_hold h body ≡ true) → (body items : List Value) (f : Fitting) → counted h body items ≡ Some f → Made (operation (op.Held h) (value.List items ∷ body)) f
counted-made h is one holds body [] f e = absurd (cc)
counted-made h is one holds body (v ∷ []) f e = absurd (cc)
counted-made h is one holds body (v ∷ x ∷ []) f e =
    let m = mapped (held_with h (x ∷ []) body) (variable_of v) f e in
    subst (Made (operation (op.Held h) (value.List (v ∷ x ∷ []) ∷ body))) m.is (
      is m.x (x ∷ []) body ∙ ap (λ y. operation (op.Held h) (value.List (y ∷ x ∷ []) ∷ body)) (variable-exact.back v m.x m.was),
      (sym one, variable-exact.fits v m.x m.was, holds body),
    )
counted-made h is one holds body (v ∷ x ∷ y ∷ more) f e = absurd (cc)

counter-made : (h : Holder) → ((v : Symbol) (lead body : List Value) → row_form (row.Held h v) lead body ≡ operation (op.Held h) (value.List (value.Sym v ∷ lead) ∷ body)) → holder_lead h ≡ 1 → ((body : List Value) → may_hold h body ≡ true) → (parts : List Value) (f : Fitting) → counter_row h parts ≡ Some f → Made (operation (op.Held h) parts) f
counter-made h is one holds [] f e = absurd (cc)
counter-made h is one holds (c ∷ body) f e =
    let k = chained (counted h body) (value_items c) f e in
    let m = counted-made h is one holds body k.x f k.is in
    (m.0 ∙ ap (λ y. operation (op.Held h) (y ∷ body)) (list-back c k.x k.was), m.1)

declared-made : (h : Holder) → ((v : Symbol) (body : List Value) → row_form (row.Held h v) [] body ≡ operation (op.Held h) (value.Sym v ∷ body)) → holder_lead h ≡ 0 → (parts : List Value) (f : Fitting) → declared_row h parts ≡ Some f → Made (operation (op.Held h) parts) f
declared-made h is none [] f e = absurd (cc)
declared-made h is none (v ∷ body) f e =
    let c = chosen (may_hold h body) (option_map (held_with h [] body) (variable_of v)) f e in
    let m = mapped (held_with h [] body) (variable_of v) f c.is in
    subst (Made (operation (op.Held h) (v ∷ body))) m.is (
      is m.x body ∙ ap (λ y. operation (op.Held h) (y ∷ body)) (variable-exact.back v m.x m.was),
      (sym none, variable-exact.fits v m.x m.was, c.test),
    )

held-made : (h : Holder) (parts : List Value) (f : Fitting) → held_row h parts ≡ Some f → Made (operation (op.Held h) parts) f
held-made holder.DoTimes parts f e = counter-made holder.DoTimes (λ v lead body. refl) refl (λ body. refl) parts f e
held-made holder.DoList parts f e = counter-made holder.DoList (λ v lead body. refl) refl (λ body. refl) parts f e
held-made holder.Defvar parts f e = declared-made holder.Defvar (λ v body. refl) refl parts f e
held-made holder.Defparameter parts f e = declared-made holder.Defparameter (λ v body. refl) refl parts f e

let-made : (o : Operator) (r : List Binding → Row) → ((bs : List Binding) (lead body : List Value) → row_form (r bs) lead body ≡ operation o (value.List (spread binding_form bs lead) ∷ body)) → ((bs : List Binding) (lead body : List Value) → EachWith IsBinding bs lead → IsForm (r bs) lead body) → (parts : List Value) (f : Fitting) → let_row r parts ≡ Some f → Made (operation o parts) f
let-made o r is fits [] f e = absurd (cc)
let-made o r is fits (bs ∷ body) f e =
    let m = mapped (let_with r body) (bindings_of bs) f e in
    subst (Made (operation o (bs ∷ body))) m.is (
      is m.x.0 m.x.1 body ∙ ap (λ y. operation o (y ∷ body)) (bindings-exact.back bs m.x m.was),
      fits m.x.0 m.x.1 body (bindings-exact.fits bs m.x m.was),
    )

pub setq-form : (vs : List Symbol) (es : List Value) → row_form (row.Setq vs) es [] ≡ operation op.Setq (assignment_forms vs es)
setq-form vs es = ap (operation op.Setq) (append-nil (assignment_forms vs es))

setq-made : (parts : List Value) (f : Fitting) → setq_row parts ≡ Some f → Made (operation op.Setq parts) f
setq-made parts f e =
    let m = mapped setq_with (assignments_of parts) f e in
    subst (Made (operation op.Setq parts)) m.is (
      setq-form m.x.0 m.x.1 ∙ ap (operation op.Setq) (assignments-exact.back parts m.x m.was),
      assignments-exact.fits parts m.x m.was,
    )

abbrev pub defun_with : List Value → Symbol → Parameters → Fitting
defun_with body name parameters = fitting (row.Defun name parameters) [] body

defun-made : (parts : List Value) (f : Fitting) → defun_row parts ≡ Some f → Made (operation op.Defun parts) f
defun-made [] f e = absurd (cc)
defun-made (x ∷ []) f e = absurd (cc)
defun-made (x ∷ ps ∷ body) f e =
    let j = joined (defun_with body) (variable_of x) (option_and_then parameters_of (value_items ps)) f e in
    subst (Made (operation op.Defun (x ∷ ps ∷ body))) j.is (
      ap (λ y. operation op.Defun (y ∷ value.List (parameter_forms j.y) ∷ body)) (variable-exact.back x j.x j.first)
          ∙ ap (λ y. operation op.Defun (x ∷ y ∷ body)) (listed-parameters-exact.back ps j.y j.second),
      (variable-exact.fits x j.x j.first, listed-parameters-exact.fits ps j.y j.second),
    )

handler-bind-made : (parts : List Value) (f : Fitting) → handler_bind_row parts ≡ Some f → Made (operation op.HandlerBind parts) f
handler-bind-made [] f e = absurd (cc)
handler-bind-made (hs ∷ body) f e =
    let m = mapped (handlers_with body) (option_and_then (each_with handler_of) (value_items hs)) f e in
    subst (Made (operation op.HandlerBind (hs ∷ body))) m.is (
      ap (λ y. operation op.HandlerBind (y ∷ body)) (handlers-exact.back hs m.x m.was),
      handlers-exact.fits hs m.x m.was,
    )

abbrev pub control_with : List Value → List Value → Symbol → List ℕ → Fitting
control_with es body name control = fitting (row.WithSimpleRestart name control (length es)) es body

controlled-made : (body items : List Value) (f : Fitting) → controlled body items ≡ Some f → Made (operation op.WithSimpleRestart (value.List items ∷ body)) f
controlled-made body [] f e = absurd (cc)
controlled-made body (n ∷ []) f e = absurd (cc)
controlled-made body (n ∷ text ∷ es) f e =
    let j = joined (control_with es body) (symbol_of n) (value_text text) f e in
    subst (Made (operation op.WithSimpleRestart (value.List (n ∷ text ∷ es) ∷ body))) j.is (
      ap (λ y. operation op.WithSimpleRestart (value.List (y ∷ value.Str j.y ∷ es) ∷ body)) (symbol-exact.back n j.x j.first)
          ∙ ap (λ y. operation op.WithSimpleRestart (value.List (n ∷ y ∷ es) ∷ body)) (string-back text j.y j.second),
      refl,
    )

with-simple-restart-made : (parts : List Value) (f : Fitting) → with_simple_restart_row parts ≡ Some f → Made (operation op.WithSimpleRestart parts) f
with-simple-restart-made [] f e = absurd (cc)
with-simple-restart-made (c ∷ body) f e =
    let k = chained (controlled body) (value_items c) f e in
    let m = controlled-made body k.x f k.is in
    (m.0 ∙ ap (λ y. operation op.WithSimpleRestart (y ∷ body)) (list-back c k.x k.was), m.1)

in-package-made : (parts : List Value) (f : Fitting) → in_package_row parts ≡ Some f → Made (operation op.InPackage parts) f
in-package-made [] f e = absurd (cc)
in-package-made (p ∷ []) f e =
    let m = mapped (λ d. fitting (row.InPackage d) [] []) (designator_of p) f e in
    subst (Made (operation op.InPackage (p ∷ []))) m.is (ap (λ y. operation op.InPackage (y ∷ [])) (designator-exact.back p m.x m.was), tt)
in-package-made (p ∷ q ∷ more) f e = absurd (cc)

defpackage-made : (parts : List Value) (f : Fitting) → defpackage_row parts ≡ Some f → Made (operation op.Defpackage parts) f
defpackage-made [] f e = absurd (cc)
defpackage-made (p ∷ options) f e =
    let j = joined package_with (designator_of p) (options_of options) f e in
    subst (Made (operation op.Defpackage (p ∷ options))) j.is (
      ap (λ ys. operation op.Defpackage (designator_form j.x ∷ ys)) (append-nil (options_forms j.y) ∙ options-exact.back options j.y j.second)
          ∙ ap (λ y. operation op.Defpackage (y ∷ options)) (designator-exact.back p j.x j.first),
      tt,
    )

operation-made : (o : Operator) (parts : List Value) (f : Fitting) → operation_row o parts ≡ Some f → Made (operation o parts) f
operation-made op.Quote parts f e = quote-made parts f e
operation-made op.Function parts f e = function-made parts f e
operation-made (op.Bare b) parts f e = bare-made b parts f e
operation-made op.Block parts f e = named-made named.Block op.Block (λ s body. refl) (λ s body p. p) parts f e
operation-made op.ReturnFrom parts f e = named-made named.ReturnFrom op.ReturnFrom (λ s body. refl) (λ s body p. p) parts f e
operation-made (op.Held h) parts f e = held-made h parts f e
operation-made op.Let parts f e = let-made op.Let row.Let (λ bs lead body. refl) (λ bs lead body p. p) parts f e
operation-made op.LetStar parts f e = let-made op.LetStar row.LetStar (λ bs lead body. refl) (λ bs lead body p. p) parts f e
operation-made op.Setq parts f e = setq-made parts f e
operation-made op.Defun parts f e = defun-made parts f e
operation-made op.HandlerBind parts f e = handler-bind-made parts f e
operation-made op.WithSimpleRestart parts f e = with-simple-restart-made parts f e
operation-made op.InPackage parts f e = in-package-made parts f e
operation-made op.Defpackage parts f e = defpackage-made parts f e

-- ---- forms

symbol-row-made : (head : Value) (s : Symbol) → value_of_symbol s ≡ head → (o : Option Operator) → operator_of s ≡ o → (parts : List Value) (f : Fitting) → symbol_row s o parts ≡ Some f → Made (value.List (head ∷ parts)) f
symbol-row-made head s is None was parts f e = made (value.List (head ∷ parts)) (named_with named.Call parts s) f e (ap (λ x. value.List (x ∷ parts)) is, was)
symbol-row-made head s is (Some o) was parts f e =
    let m = operation-made o parts f e in
    (m.0 ∙ ap (λ x. value.List (x ∷ parts)) (sym (operator-form o) ∙ (ap value_of_symbol (sym (operator-back s o was)) ∙ is)), m.1)

headed-made : (head : Value) (o : Option Symbol) → symbol_of head ≡ o → (parts : List Value) (f : Fitting) → headed_row o parts ≡ Some f → Made (value.List (head ∷ parts)) f
headed-made head None was parts f e = absurd (cc)
headed-made head (Some s) was parts f e = symbol-row-made head s (symbol-exact.back head s was) (operator_of s) refl parts f e

read-made : (v : Value) (s : Symbol) → value.Sym s ≡ v → (b : Bool) → is_readable s ≡ b → (f : Fitting) → (if b then Some (fitting (row.Variable s) [] []) else None) ≡ Some f → Made v f
read-made v s is true was f e = made v (fitting (row.Variable s) [] []) f e (is, was)
read-made v s is false was f e = absurd (cc)

name-made : (v : Value) (s : Symbol) → out-Value v ≡ Value-F.Sym s → (b : Bool) → (is_keyword s || names s (codes "T")) ≡ b → (f : Fitting) → (if b then Some (fitting (row.Literal v) [] []) else (if is_readable s then Some (fitting (row.Variable s) [] []) else None)) ≡ Some f → Made v f
unfolding is_self
name-made v s is true was f e = made v (fitting (row.Literal v) [] []) f e (refl, ap is_self_in is ∙ was)
name-made v s is false was f e = read-made v s (sym (from-symbol v s is)) (is_readable s) refl f e

pub form-at : (v : Value) (o : Value-F Value Condition) → out-Value v ≡ o → (f : Fitting) → form_row_in v o ≡ Some f → Made v f
unfolding is_self
form-at v (Value-F.Sym s) is f e = name-made v s is (is_keyword s || names s (codes "T")) refl f e
form-at v (Value-F.List []) is f e = made v (fitting (row.Literal v) [] []) f e (refl, ap is_self_in is)
form-at v (Value-F.List (head ∷ parts)) is f e =
    let m = headed-made head (symbol_of head) refl parts f e in
    (m.0 ∙ sym (from-list v (head ∷ parts) is), m.1)
form-at v (Value-F.Int n) is f e = made v (fitting (row.Literal v) [] []) f e (refl, ap is_self_in is)
form-at v (Value-F.Str text) is f e = made v (fitting (row.Literal v) [] []) f e (refl, ap is_self_in is)
form-at v (Value-F.Cond c) is f e = made v (fitting (row.Literal v) [] []) f e (refl, ap is_self_in is)
