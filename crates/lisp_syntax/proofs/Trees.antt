-- A tree that was parsed is of the form that was parsed.
use Rattle.std.proofs.Common.{◌≡◌, ℕ, zero, suc, List, [], ◌∷◌, ◌++◌, map, length, refl, sym, ap, ◌∙◌}
use Rattle.std.specs.Prelude.{Option, Some, None, Result, Ok, Err}
use Rattle.lisp_data.specs.Value.{depth_of}
use Rattle.lisp_data.specs.declared.value.Value.{Value}
use Rattle.syntax_trees.specs.declared.ast.Ast.{Ast}
use Rattle.syntax_trees.specs.declared.ast.Ast.TheFolds.{fold-roll-Ast}
use Rattle.syntax_trees.specs.declared.row.Row.{Row}
use Rattle.syntax_trees.specs.declared.row.Row.TheVariants as row
use Rattle.lisp_syntax.specs.declared.sort.Sort.{Sort}
use Rattle.lisp_syntax.specs.declared.sort.Sort.TheVariants as sort
use Rattle.lisp_syntax.specs.Rows.{Fitting, fitted, form_of, lead_of, body_sort, EachWith, IsForm, IsClause, IsRow}
use Rattle.lisp_syntax.specs.Table.{row_of}
use Rattle.lisp_syntax.specs.Parsing.{◌>>=◌, Item, item, subforms, each, node, node_form, planted, parsed_within, parsed_item, parsed, unparsed}
use Rattle.lisp_syntax.proofs.FormRows.{split-at}
use Rattle.lisp_syntax.proofs.FoundRows.{row-made}

-- ---- how many subforms stand before the body

each-with-length : {A : Type 0} (P : A → Value → Type 0) (xs : List A) (es : List Value) → EachWith P xs es → length es ≡ length xs
each-with-length P [] [] f = refl
each-with-length P [] (e ∷ es) f = absurd f
each-with-length P (x ∷ xs) [] f = absurd f
each-with-length P (x ∷ xs) (e ∷ es) f = ap suc (each-with-length P xs es f.1)

form-lead : (r : Row) (lead body : List Value) → IsForm r lead body → length lead ≡ lead_of r
form-lead (row.Literal v) [] [] f = refl
form-lead (row.Variable v) [] [] f = refl
form-lead (row.Quote v) [] [] f = refl
form-lead (row.Function s) [] [] f = refl
form-lead (row.Bare b) lead body f = f.0
form-lead (row.Named n s) [] body f = refl
form-lead (row.Held h v) lead body f = f.0
form-lead (row.Let bs) lead body f = each-with-length _ bs lead f
form-lead (row.LetStar bs) lead body f = each-with-length _ bs lead f
form-lead (row.Setq vs) lead [] f = each-with-length _ vs lead f
form-lead (row.Defun x ps) [] body f = refl
form-lead (row.HandlerBind ts) lead body f = each-with-length _ ts lead f
form-lead (row.WithSimpleRestart n control arguments) lead body f = f
form-lead (row.InPackage p) [] [] f = refl
form-lead (row.Defpackage p uses exports) [] [] f = refl
form-lead _ _ _ f = absurd f

clause-lead : (s : Sort) (r : Row) (lead body : List Value) → IsClause s r lead body → length lead ≡ lead_of r
clause-lead sort.CondClause row.CondClause [] (t ∷ body) f = refl
clause-lead sort.HandlerClause (row.HandlerClause t v) [] body f = refl
clause-lead sort.RestartClause (row.RestartClause n vs report) [] body f = refl
clause-lead _ _ _ _ f = absurd f

row-lead : (s : Sort) (f : Fitting) → IsRow s f → length f.lead ≡ lead_of f.row
row-lead sort.Form f p = form-lead f.row f.lead f.body p
row-lead sort.CondClause f p = clause-lead sort.CondClause f.row f.lead f.body p
row-lead sort.HandlerClause f p = clause-lead sort.HandlerClause f.row f.lead f.body p
row-lead sort.RestartClause f p = clause-lead sort.RestartClause f.row f.lead f.body p

-- ---- steps

record Earlier {A C : Type 0} (m : Result A Value) (k : A → Result C Value) (y : C) : Type 0 where
  x : A
  was : m ≡ Ok x
  is : k x ≡ Ok y

earlier : {A C : Type 0} (m : Result A Value) (k : A → Result C Value) (y : C) → (m >>= k) ≡ Ok y → Earlier m k y
earlier (Ok x) k y e = record { x = x; was = refl; is = e }
earlier (Err u) k y e = absurd (cc)

abbrev taken : {A : Type 0} → A → Result A Value
taken x = Ok x

ok-same : {A : Type 0} (x y : A) → taken x ≡ Ok y → x ≡ y
ok-same x y e = cc

each-backed : (f : Item → Result Ast Value) → ((i : Item) (t : Ast) → f i ≡ Ok t → unparsed t ≡ i.value) → (items : List Item) (ts : List Ast) → each f items ≡ Ok ts → map unparsed ts ≡ map (λ i. i.value) items
each-backed f back [] ts e = ap (map unparsed) (sym (ok-same [] ts e))
each-backed f back (i ∷ items) ts e =
    let a = earlier (f i) (λ y. each f items >>= (λ ys. Ok (y ∷ ys))) ts e in
    let b = earlier (each f items) (λ ys. Ok (a.x ∷ ys)) ts a.is in
    ap (map unparsed) (sym (ok-same (a.x ∷ b.x) ts b.is))
    ∙ (ap (λ w. w ∷ map unparsed b.x) (back i a.x a.was)
    ∙ ap (λ ws. i.value ∷ ws) (each-backed f back items b.x b.was))

item-values : (s : Sort) (xs : List Value) → map (λ i. i.value) (map (item s) xs) ≡ xs
item-values s [] = refl
item-values s (x ∷ xs) = ap (λ ys. x ∷ ys) (item-values s xs)

values-append : (xs ys : List Item) → map (λ i. i.value) (xs ++ ys) ≡ map (λ i. i.value) xs ++ map (λ i. i.value) ys
values-append [] ys = refl
values-append (x ∷ xs) ys = ap (λ zs. x.value ∷ zs) (values-append xs ys)

subform-values : (f : Fitting) → map (λ i. i.value) (subforms f) ≡ f.lead ++ f.body
subform-values f =
    values-append (map (item sort.Form) f.lead) (map (item (body_sort f.row)) f.body)
    ∙ (ap (λ xs. xs ++ map (λ i. i.value) (map (item (body_sort f.row)) f.body)) (item-values sort.Form f.lead)
    ∙ ap (λ ys. f.lead ++ ys) (item-values (body_sort f.row) f.body))

node-unparsed : (r : Row) (ts : List Ast) → unparsed (node r ts) ≡ form_of (fitted r (map unparsed ts))
node-unparsed r ts = fold-roll-Ast Value node_form (record { row = r; forms = ts })

-- ---- forms

tree-backed : (parse : Item → Result Ast Value) → ((i : Item) (t : Ast) → parse i ≡ Ok t → unparsed t ≡ i.value) → (i : Item) (o : Option Fitting) → row_of i.sort i.value ≡ o → (t : Ast) → planted parse i.value o ≡ Ok t → unparsed t ≡ i.value
tree-backed parse back i None was t e = absurd (cc)
tree-backed parse back i (Some f) was t e =
    let m = row-made i.sort i.value f was in
    let a = earlier (each parse (subforms f)) (λ ts. Ok (node f.row ts)) t e in
    ap unparsed (sym (ok-same (node f.row a.x) t a.is))
    ∙ (node-unparsed f.row a.x
    ∙ (ap (λ xs. form_of (fitted f.row xs)) (each-backed parse back (subforms f) a.x a.was ∙ subform-values f)
    ∙ (ap form_of (split-at f.row (lead_of f.row) f.lead f.body (row-lead i.sort f m.1))
    ∙ m.0)))

within-backed : (n : ℕ) (i : Item) (t : Ast) → parsed_within n i ≡ Ok t → unparsed t ≡ i.value
within-backed zero i t e = absurd (cc)
within-backed (suc n) i t e = tree-backed (parsed_within n) (within-backed n) i (row_of i.sort i.value) refl t e

pub parsed-backed : (v : Value) (t : Ast) → parsed v ≡ Ok t → unparsed t ≡ v
unfolding parsed_item
parsed-backed v t e = within-backed (suc (depth_of v)) (item sort.Form v) t e
