-- What a form gives, from its row and from what its subforms give.
use Rattle.std.proofs.Common.{◌≡◌, List, [], ◌∷◌, ◌++◌, map, refl, sym, ap, subst, ◌∙◌, append_assoc}
use Rattle.std.specs.Prelude.{Some, None, Result, Ok, Err}
use Rattle.lisp_data.specs.Value.{depth_of}
use Rattle.lisp_data.specs.declared.value.Value.{Value}
use Rattle.lisp_data.specs.Parts.{nil}
use Rattle.syntax_trees.specs.declared.ast.Ast.{Ast}
use Rattle.syntax_trees.specs.declared.row.Row.TheVariants as row
use Rattle.lisp_syntax.specs.declared.sort.Sort.{Sort}
use Rattle.lisp_syntax.specs.declared.sort.Sort.TheVariants as sort
use Rattle.lisp_syntax.specs.declared.fault.ParseFault.{ParseFault}
use Rattle.lisp_syntax.specs.declared.fault.ParseFault.TheVariants as fault
use Rattle.lisp_syntax.specs.Fits.{Gives, IsBelow, after}
use Rattle.lisp_syntax.specs.Rows.{Fitting, fitting, body_sort}
use Rattle.lisp_syntax.specs.Table.{form_row_in, row_of}
use Rattle.lisp_syntax.specs.Parsing.{◌>>=◌, Item, item, subforms, each, node, tree_of, planted, parsed_item}
use Rattle.lisp_syntax.proofs.Levels.{out-list}
use Rattle.lisp_syntax.proofs.Depths.{parsed-is, rows-below}

pub planted_some : (s : Sort) (v : Value) (f : Fitting) → row_of s v ≡ Some f → parsed_item (item s v) ≡ tree_of parsed_item f
planted_some s v f e = parsed-is (item s v) ∙ ap (planted parsed_item v) e

pub planted_none : (s : Sort) (v : Value) → row_of s v ≡ None → parsed_item (item s v) ≡ Err v
planted_none s v e = parsed-is (item s v) ∙ ap (planted parsed_item v) e

pub below_some : (s : Sort) (v : Value) (f : Fitting) → row_of s v ≡ Some f → IsBelow (depth_of v) f
below_some s v f e = rows-below s v f e

nil-row : row_of sort.Form nil ≡ Some (fitting (row.Literal nil) [] [])
unfolding row_of
nil-row = ap (form_row_in nil) (out-list [])

pub parsed_nil : parsed_item (item sort.Form nil) ≡ Ok (node (row.Literal nil) [])
parsed_nil = planted_some sort.Form nil (fitting (row.Literal nil) [] []) nil-row

after-more : {A : Type 0} (xs : List A) (x : A) (m : Result (List A) Value) → after xs (m >>= (λ ys. Ok (x ∷ ys))) ≡ after (xs ++ x ∷ []) m
after-more xs x (Ok ys) = ap Ok (sym (append_assoc xs (x ∷ []) ys))
after-more xs x (Err u) = refl

after-none : {A : Type 0} (m : Result (List A) Value) → after [] m ≡ m
after-none (Ok ys) = refl
after-none (Err u) = refl

abbrev first_part : Fitting → Result (List Ast) Value
first_part f = each parsed_item (map (item sort.Form) f.lead)

abbrev second_part : Fitting → Result (List Ast) Value
second_part f = each parsed_item (map (item (body_sort f.row)) f.body)

abbrev joined : Result (List Ast) Value → Result (List Ast) Value → Result (List Ast) Value
joined m n = m >>= (λ ts. after ts n)

joined-more : (t : Ast) (m n : Result (List Ast) Value) → joined (m >>= (λ ys. Ok (t ∷ ys))) n ≡ (joined m n >>= (λ ys. Ok (t ∷ ys)))
joined-more t (Ok ts) (Ok us) = refl
joined-more t (Ok ts) (Err u) = refl
joined-more t (Err u) n = refl

joined-step : (p m n : Result (List Ast) Value) (a : Result Ast Value) → p ≡ joined m n → (a >>= (λ y. p >>= (λ ys. Ok (y ∷ ys)))) ≡ joined (a >>= (λ y. m >>= (λ ys. Ok (y ∷ ys)))) n
joined-step p m n (Ok t) e = ap (λ r. r >>= (λ ys. Ok (t ∷ ys))) e ∙ sym (joined-more t m n)
joined-step p m n (Err u) e = refl

each-append : (xs ys : List Item) → each parsed_item (xs ++ ys) ≡ joined (each parsed_item xs) (each parsed_item ys)
each-append [] ys = sym (after-none (each parsed_item ys))
each-append (i ∷ xs) ys = joined-step (each parsed_item (xs ++ ys)) (each parsed_item xs) (each parsed_item ys) (parsed_item i) (each-append xs ys)

parts : (f : Fitting) → each parsed_item (subforms f) ≡ joined (first_part f) (second_part f)
parts f = each-append (map (item sort.Form) f.lead) (map (item (body_sort f.row)) f.body)

abbrev no_trees : ParseFault → Result (List Ast) ParseFault
no_trees w = Err w

-- behind an empty row stands what there is
after-empty : {A : Type 0} (xs : List A) (m : Result (List A) Value) → xs ≡ [] → m ≡ after xs m
after-empty xs m e = sym (ap (λ ys. after ys m) e ∙ after-none m)

-- the first of the subforms before the body that is bad is the first bad one
pub lead_bad : (f : Fitting) (w : ParseFault) (xs : List Ast) → xs ≡ [] → Gives (no_trees w) (after xs (first_part f)) → Gives (no_trees w) (each parsed_item (subforms f))
lead_bad f (fault.Syntax u) xs z e = parts f ∙ ap (λ m. joined m (second_part f)) (after-empty xs (first_part f) z ∙ e)
lead_bad f fault.NoMemory xs z e = tt

pub body_gives : (f : Fitting) (s : Sort) (xs ts : List Ast) (r : Result (List Ast) ParseFault) → xs ≡ [] → after xs (first_part f) ≡ Ok ts → s ≡ body_sort f.row → Gives r (after ts (each parsed_item (map (item s) f.body))) → Gives r (each parsed_item (subforms f))
body_gives f s xs ts r z e same g =
    subst (Gives r) (ap (λ k. after ts (each parsed_item (map (item k) f.body))) same ∙ sym (parts f ∙ ap (λ m. joined m (second_part f)) (after-empty xs (first_part f) z ∙ e))) g
