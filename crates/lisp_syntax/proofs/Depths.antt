-- What a form gives hangs on its subforms alone, each of which is less deep than the form.
use Rattle.std.proofs.Common.{◌≡◌, ℕ, zero, suc, ◌<◌, ◌≤◌, List, [], ◌∷◌, ◌++◌, map, length, refl, sym, ap, subst, ◌∙◌, arith}
use Rattle.std.specs.Prelude.{Option, Some, None, Result, Ok}
use Rattle.lisp_data.specs.Value.{depth_of, depth_step, condition_depth_step}
use Rattle.lisp_data.specs.declared.symbol.Symbol.{Symbol}
use Rattle.lisp_data.specs.declared.type_id.TypeId.{TypeId}
use Rattle.lisp_data.specs.declared.value.Value.{Value}
use Rattle.lisp_data.specs.declared.value.Value as value
use Rattle.lisp_data.specs.declared.value.Value.TheOpen.{Value-F}
use Rattle.lisp_data.specs.declared.value.Value.TheFolds.{fold-roll-Value}
use Rattle.lisp_data.specs.declared.value.Value.TheVariants.{rolls-List}
use Rattle.lisp_data.specs.Parts.{nil}
use Rattle.lisp_data.specs.Symbols.{value_of_symbol}
use Rattle.syntax_trees.specs.declared.ast.Ast.{Ast}
use Rattle.syntax_trees.specs.declared.row.Holder.{Holder}
use Rattle.syntax_trees.specs.declared.row.Holder.TheVariants as holder
use Rattle.syntax_trees.specs.declared.row.Init.{Init}
use Rattle.syntax_trees.specs.declared.row.Init.TheVariants as init
use Rattle.syntax_trees.specs.declared.row.Binding.{Binding}
use Rattle.syntax_trees.specs.declared.row.Row.{Row}
use Rattle.syntax_trees.specs.declared.row.Row.TheVariants as row
use Rattle.lisp_syntax.specs.declared.operator.Operator.TheVariants as op
use Rattle.lisp_syntax.specs.declared.sort.Sort.{Sort}
use Rattle.lisp_syntax.specs.declared.sort.Sort.TheVariants as sort
use Rattle.lisp_syntax.specs.Fits.{over, IsBelow}
use Rattle.lisp_syntax.specs.Parts.{Each, type_form}
use Rattle.lisp_syntax.specs.Rows.{Fitting, form_of, row_form, head_of, operator_symbol, named_head, holder_lead, body_sort, bound_form, binding_form, handler_form, assignment_forms, spread, EachWith, IsBinding, IsAssigned, IsHandled, IsForm, IsClause, IsRow}
use Rattle.lisp_syntax.specs.Table.{row_of}
use Rattle.lisp_syntax.specs.Parsing.{◌>>=◌, Item, item, subforms, each, node, planted, parsed_within, parsed_item}
use Rattle.lisp_syntax.proofs.FoundRows.{row-made}

-- ---- lists

pub depth-list : (xs : List Value) → depth_of (value.List xs) ≡ over xs
depth-list xs = ap depth_of (sym (rolls-List xs)) ∙ fold-roll-Value ℕ ℕ depth_step condition_depth_step (Value-F.List xs)

over-front : (xs ys : List Value) → over xs ≤ over (xs ++ ys)
over-front [] ys = omega arith
over-front (x ∷ xs) ys = let more : over xs ≤ over (xs ++ ys) = over-front xs ys in omega (arith, more)

over-behind : (xs ys : List Value) → over ys ≤ over (xs ++ ys)
over-behind [] ys = omega arith
over-behind (x ∷ xs) ys = let more : over ys ≤ over (xs ++ ys) = over-behind xs ys in omega (arith, more)

-- where the subforms before the body are no deeper than the head
listed-below : (head lead body : List Value) → over lead ≤ over head → (over lead ≤ depth_of (value.List (head ++ body))) × (over body ≤ depth_of (value.List (head ++ body)))
listed-below head lead body less =
    let front : over head ≤ over (head ++ body) = over-front head body in
    let behind : over body ≤ over (head ++ body) = over-behind head body in
    (omega (arith, less, front, depth-list (head ++ body)), omega (arith, behind, depth-list (head ++ body)))

nothing-below : (head : List Value) → over [] ≤ over head
nothing-below head = omega arith

-- what stands in a list in the head
inner-below : (o : Value) (xs lead : List Value) → over lead ≤ over xs → over lead ≤ over (o ∷ value.List xs ∷ [])
inner-below o xs lead less = omega (arith, less, depth-list xs)

-- ---- rows

bound-below : (v : Symbol) (i : Init) (e : Value) → IsBinding (record { variable = v; init = i }) e → depth_of e ≤ depth_of (bound_form v i e)
bound-below v init.Bare e f = let none : depth_of e ≡ depth_of nil = ap depth_of f.1 in omega (arith, none, depth-list [])
bound-below v init.Empty e f = let none : depth_of e ≡ depth_of nil = ap depth_of f.1 in omega (arith, none, depth-list [])
bound-below v init.Form e f = omega (arith, depth-list (value.Sym v ∷ e ∷ []))

bindings-below : (bs : List Binding) (es : List Value) → EachWith IsBinding bs es → over es ≤ over (spread binding_form bs es)
bindings-below [] [] f = omega arith
bindings-below [] (e ∷ es) f = absurd f
bindings-below (b ∷ bs) [] f = absurd f
bindings-below (b ∷ bs) (e ∷ es) f =
    let first : depth_of e ≤ depth_of (binding_form b e) = bound-below b.variable b.init e f.0 in
    let more : over es ≤ over (spread binding_form bs es) = bindings-below bs es f.1 in
    omega (arith, first, more)

handlers-below : (ts : List TypeId) (es : List Value) → EachWith IsHandled ts es → over es ≤ over (spread handler_form ts es)
handlers-below [] [] f = omega arith
handlers-below [] (e ∷ es) f = absurd f
handlers-below (t ∷ ts) [] f = absurd f
handlers-below (t ∷ ts) (e ∷ es) f =
    let first : depth_of e ≤ depth_of (handler_form t e) = omega (arith, depth-list (type_form t ∷ e ∷ [])) in
    let more : over es ≤ over (spread handler_form ts es) = handlers-below ts es f.1 in
    omega (arith, first, more)

assignments-below : (vs : List Symbol) (es : List Value) → EachWith IsAssigned vs es → over es ≤ over (assignment_forms vs es)
assignments-below [] [] f = omega arith
assignments-below [] (e ∷ es) f = absurd f
assignments-below (v ∷ vs) [] f = absurd f
assignments-below (v ∷ vs) (e ∷ es) f =
    let more : over es ≤ over (assignment_forms vs es) = assignments-below vs es f.1 in
    omega (arith, more)

behind-one : (o : Value) (xs lead : List Value) → over lead ≤ over xs → over lead ≤ over (o ∷ xs)
behind-one o xs lead less = omega (arith, less)

same-below : (xs : List Value) → over xs ≤ over xs
same-below xs = omega arith

held-below : (h : Holder) (v : Symbol) (lead : List Value) → length lead ≡ holder_lead h → over lead ≤ over (head_of (row.Held h v) lead)
held-below holder.DoTimes v lead is = inner-below (operator_symbol (op.Held holder.DoTimes)) (value.Sym v ∷ lead) lead (behind-one (value.Sym v) lead lead (same-below lead))
held-below holder.DoList v lead is = inner-below (operator_symbol (op.Held holder.DoList)) (value.Sym v ∷ lead) lead (behind-one (value.Sym v) lead lead (same-below lead))
held-below holder.Defvar v [] is = nothing-below (head_of (row.Held holder.Defvar v) [])
held-below holder.Defvar v (x ∷ xs) is = absurd (omega (arith, is))
held-below holder.Defparameter v [] is = nothing-below (head_of (row.Held holder.Defparameter v) [])
held-below holder.Defparameter v (x ∷ xs) is = absurd (omega (arith, is))

abbrev Below : Row → List Value → List Value → Type 0
Below r lead body = (over lead ≤ depth_of (row_form r lead body)) × (over body ≤ depth_of (row_form r lead body))

plain-below : (n : ℕ) → (over [] ≤ n) × (over [] ≤ n)
plain-below n = (omega arith, omega arith)

form-below : (r : Row) (lead body : List Value) → IsForm r lead body → Below r lead body
form-below (row.Literal v) [] [] f = plain-below (depth_of v)
form-below (row.Variable v) [] [] f = plain-below (depth_of (value.Sym v))
form-below (row.Quote v) [] [] f = plain-below (depth_of (row_form (row.Quote v) [] []))
form-below (row.Function s) [] [] f = plain-below (depth_of (row_form (row.Function s) [] []))
form-below (row.Bare b) lead body f = listed-below (operator_symbol (op.Bare b) ∷ lead) lead body (behind-one (operator_symbol (op.Bare b)) lead lead (same-below lead))
form-below (row.Named n s) [] body f = listed-below (named_head n s) [] body (nothing-below (named_head n s))
form-below (row.Held h v) lead body f = listed-below (head_of (row.Held h v) lead) lead body (held-below h v lead f.0)
form-below (row.Let bs) lead body f = listed-below (head_of (row.Let bs) lead) lead body (inner-below (operator_symbol op.Let) (spread binding_form bs lead) lead (bindings-below bs lead f))
form-below (row.LetStar bs) lead body f = listed-below (head_of (row.LetStar bs) lead) lead body (inner-below (operator_symbol op.LetStar) (spread binding_form bs lead) lead (bindings-below bs lead f))
form-below (row.Setq vs) lead [] f = listed-below (head_of (row.Setq vs) lead) lead [] (behind-one (operator_symbol op.Setq) (assignment_forms vs lead) lead (assignments-below vs lead f))
form-below (row.Defun x ps) [] body f = listed-below (head_of (row.Defun x ps) []) [] body (nothing-below (head_of (row.Defun x ps) []))
form-below (row.HandlerBind ts) lead body f = listed-below (head_of (row.HandlerBind ts) lead) lead body (inner-below (operator_symbol op.HandlerBind) (spread handler_form ts lead) lead (handlers-below ts lead f))
form-below (row.WithSimpleRestart n control arguments) lead body f =
    listed-below (head_of (row.WithSimpleRestart n control arguments) lead) lead body
    (inner-below (operator_symbol op.WithSimpleRestart) (value_of_symbol n ∷ value.Str control ∷ lead) lead (behind-one (value_of_symbol n) (value.Str control ∷ lead) lead (behind-one (value.Str control) lead lead (same-below lead))))
form-below (row.InPackage p) [] [] f = plain-below (depth_of (row_form (row.InPackage p) [] []))
form-below (row.Defpackage p uses exports) [] [] f = plain-below (depth_of (row_form (row.Defpackage p uses exports) [] []))
form-below _ _ _ f = absurd f

clause-below : (s : Sort) (r : Row) (lead body : List Value) → IsClause s r lead body → Below r lead body
clause-below sort.CondClause row.CondClause [] (t ∷ body) f = listed-below [] [] (t ∷ body) (nothing-below [])
clause-below sort.HandlerClause (row.HandlerClause t v) [] body f = listed-below (head_of (row.HandlerClause t v) []) [] body (nothing-below (head_of (row.HandlerClause t v) []))
clause-below sort.RestartClause (row.RestartClause n vs report) [] body f = listed-below (head_of (row.RestartClause n vs report) []) [] body (nothing-below (head_of (row.RestartClause n vs report) []))
clause-below _ _ _ _ f = absurd f

row-below : (s : Sort) (f : Fitting) → IsRow s f → IsBelow (depth_of (form_of f)) f
row-below sort.Form f p = form-below f.row f.lead f.body p
row-below sort.CondClause f p = clause-below sort.CondClause f.row f.lead f.body p
row-below sort.HandlerClause f p = clause-below sort.HandlerClause f.row f.lead f.body p
row-below sort.RestartClause f p = clause-below sort.RestartClause f.row f.lead f.body p

-- the subforms of a form are less deep
pub rows-below : (s : Sort) (v : Value) (f : Fitting) → row_of s v ≡ Some f → IsBelow (depth_of v) f
rows-below s v f e =
    let m = row-made s v f e in
    subst (λ w. IsBelow (depth_of w) f) m.0 (row-below s f m.1)

-- ---- subforms

each-map : {A : Type 0} (P Q : A → Type 0) → ((x : A) → P x → Q x) → (xs : List A) → Each P xs → Each Q xs
each-map P Q to [] p = tt
each-map P Q to (x ∷ xs) p = (to x p.0, each-map P Q to xs p.1)

each-append : {A : Type 0} (P : A → Type 0) (xs ys : List A) → Each P xs → Each P ys → Each P (xs ++ ys)
each-append P [] ys p q = q
each-append P (x ∷ xs) ys p q = (p.0, each-append P xs ys p.1 q)

items-below : (s : Sort) (n : ℕ) (xs : List Value) → over xs ≤ n → Each (λ i. depth_of i.value < n) (map (item s) xs)
items-below s n [] below = tt
items-below s n (x ∷ xs) below =
    let less : depth_of x < n = omega (arith, below) in
    let rest : over xs ≤ n = omega (arith, below) in
    (less, items-below s n xs rest)

-- what holds of all that is less deep than a form holds of its subforms
pub subforms-under : (P : Item → Type 0) (s : Sort) (v : Value) (f : Fitting) → row_of s v ≡ Some f → ((i : Item) → depth_of i.value < depth_of v → P i) → Each P (subforms f)
subforms-under P s v f e all =
    let b = rows-below s v f e in
    each-map (λ i. depth_of i.value < depth_of v) P all (subforms f)
    (each-append (λ i. depth_of i.value < depth_of v) (map (item sort.Form) f.lead) (map (item (body_sort f.row)) f.body) (items-below sort.Form (depth_of v) f.lead b.0) (items-below (body_sort f.row) (depth_of v) f.body b.1))

-- ---- forms

each-same : (f g : Item → Result Ast Value) (items : List Item) → Each (λ i. f i ≡ g i) items → each f items ≡ each g items
each-same f g [] s = refl
each-same f g (i ∷ items) s =
    ap (λ r. r >>= (λ y. each f items >>= (λ ys. Ok (y ∷ ys)))) s.0
    ∙ ap (λ r. g i >>= (λ y. r >>= (λ ys. Ok (y ∷ ys)))) (each-same f g items s.1)

planted-same : (f g : Item → Result Ast Value) (i : Item) (o : Option Fitting) → row_of i.sort i.value ≡ o → ((j : Item) → depth_of j.value < depth_of i.value → f j ≡ g j) → planted f i.value o ≡ planted g i.value o
planted-same f g i None was all = refl
planted-same f g i (Some fit) was all = ap (λ r. r >>= (λ ts. Ok (node fit.row ts))) (each-same f g (subforms fit) (subforms-under (λ j. f j ≡ g j) i.sort i.value fit was all))

-- more steps than a form is deep change nothing
enough : (n m : ℕ) (i : Item) → depth_of i.value < n → depth_of i.value < m → parsed_within n i ≡ parsed_within m i
enough zero m i first second = absurd (omega (arith, first))
enough (suc n) zero i first second = absurd (omega (arith, second))
enough (suc n) (suc m) i first second = planted-same (parsed_within n) (parsed_within m) i (row_of i.sort i.value) refl (λ j less. enough n m j (omega (arith, first, less)) (omega (arith, second, less)))

-- what a form gives is what its row gives
pub parsed-is : (i : Item) → parsed_item i ≡ planted parsed_item i.value (row_of i.sort i.value)
unfolding parsed_item
parsed-is i = planted-same (parsed_within (depth_of i.value)) parsed_item i (row_of i.sort i.value) refl (λ j less. enough (depth_of i.value) (suc (depth_of j.value)) j less (omega arith))
