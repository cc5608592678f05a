-- What parsing refuses is the first bad form, by the row and the order of its subforms.
use Rattle.std.proofs.Common.{◌≡◌, ℕ, zero, suc, ◌<◌, ◌↔◌, arith, List, [], ◌∷◌, refl, sym, ap, subst, ◌∙◌}
use Rattle.std.specs.Prelude.{Option, Some, None, Result, Ok, Err}
use Rattle.lisp_data.specs.Value.{depth_of}
use Rattle.lisp_data.specs.declared.value.Value.{Value}
use Rattle.syntax_trees.specs.declared.ast.Ast.{Ast}
use Rattle.lisp_syntax.specs.declared.sort.Sort.TheVariants as sort
use Rattle.lisp_syntax.specs.Parts.{Each}
use Rattle.lisp_syntax.specs.Rows.{Fitting}
use Rattle.lisp_syntax.specs.Table.{row_of}
use Rattle.lisp_syntax.specs.Parsing.{◌>>=◌, Item, item, subforms, each, node, planted, parsed, parsed_item}
use Rattle.lisp_syntax.specs.Firsts.{IsGood, AreGood, by_row, none, more, FirstBad, FirstBadOf, here, inside, at, past}
use Rattle.lisp_syntax.proofs.Depths.{parsed-is, subforms-under}

-- what is bad in what was made
abbrev bad : {A : Type 0} → Result A Value → Option Value
bad (Ok x) = None
bad (Err u) = Some u

abbrev or_else : Option Value → Option Value → Option Value
or_else (Some u) o = Some u
or_else None o = o

-- the first bad one of some forms
abbrev first_of : List Item → Option Value
first_of [] = None
first_of (i ∷ items) = or_else (bad (parsed_item i)) (first_of items)

bad-one : {A C : Type 0} (m : Result A Value) (k : A → C) → bad (m >>= (λ x. Ok (k x))) ≡ bad m
bad-one (Ok x) k = refl
bad-one (Err u) k = refl

bad-two : {A B C : Type 0} (m : Result A Value) (p : Result B Value) (k : A → B → C) → bad (m >>= (λ x. p >>= (λ y. Ok (k x y)))) ≡ or_else (bad m) (bad p)
bad-two (Ok x) p k = bad-one p (k x)
bad-two (Err u) p k = refl

bad-each : (items : List Item) → bad (each parsed_item items) ≡ first_of items
bad-each [] = refl
bad-each (i ∷ items) = bad-two (parsed_item i) (each parsed_item items) ◌∷◌ ∙ ap (or_else (bad (parsed_item i))) (bad-each items)

bad-planted : (i : Item) (f : Fitting) → row_of i.sort i.value ≡ Some f → bad (parsed_item i) ≡ first_of (subforms f)
bad-planted i f was = ap bad (parsed-is i ∙ ap (planted parsed_item i.value) was) ∙ (bad-one (each parsed_item (subforms f)) (node f.row) ∙ bad-each (subforms f))

bad-err : {A : Type 0} (m : Result A Value) (u : Value) → bad m ≡ Some u → m ≡ Err u
bad-err (Ok x) u e = absurd (cc)
bad-err (Err w) u e = ap Err (let same : w ≡ u = cc in same)

mutual
  good-none : (i : Item) → IsGood i → bad (parsed_item i) ≡ None
  good-none a (by_row i f was good) = bad-planted i f was ∙ goods-none (subforms f) good

  goods-none : (items : List Item) → AreGood items → first_of items ≡ None
  goods-none bs none = refl
  goods-none bs (more i items good rest) = ap (λ o. or_else o (first_of items)) (good-none i good) ∙ goods-none items rest

mutual
  first-bad : (i : Item) (u : Value) → FirstBad i u → bad (parsed_item i) ≡ Some u
  first-bad a b (here i was) = ap bad (parsed-is i ∙ ap (planted parsed_item i.value) was)
  first-bad a b (inside i u f was below) = bad-planted i f was ∙ first-bad-of (subforms f) u below

  first-bad-of : (items : List Item) (u : Value) → FirstBadOf items u → first_of items ≡ Some u
  first-bad-of bs b (at i u items below) = ap (λ o. or_else o (first_of items)) (first-bad i u below)
  first-bad-of bs b (past i u items good below) = ap (λ o. or_else o (first_of items)) (good-none i good) ∙ first-bad-of items u below

-- what parsing says of a form
record Judged (i : Item) : Type 0 where
  refused : (u : Value) → parsed_item i ≡ Err u → FirstBad i u
  taken : bad (parsed_item i) ≡ None → IsGood i

judged-at : (i : Item) (items : List Item) (m : Result Ast Value) → parsed_item i ≡ m → Judged i → (u : Value) → or_else (bad m) (first_of items) ≡ Some u → (first_of items ≡ Some u → FirstBadOf items u) → FirstBadOf (i ∷ items) u
judged-at i items (Err w) was j u is rest = let same : w ≡ u = cc in at i u items (j.refused u (was ∙ ap Err same))
judged-at i items (Ok t) was j u is rest = past i u items (j.taken (ap bad was)) (rest is)

firsts-judged : (items : List Item) → Each Judged items → (u : Value) → first_of items ≡ Some u → FirstBadOf items u
firsts-judged [] js u e = absurd (cc)
firsts-judged (i ∷ items) js u e = judged-at i items (parsed_item i) refl js.0 u e (firsts-judged items js.1 u)

good-at : (i : Item) (items : List Item) (m : Result Ast Value) → parsed_item i ≡ m → Judged i → or_else (bad m) (first_of items) ≡ None → (first_of items ≡ None → AreGood items) → AreGood (i ∷ items)
good-at i items (Err w) was j is rest = absurd (cc)
good-at i items (Ok t) was j is rest = more i items (j.taken (ap bad was)) (rest is)

goods-judged : (items : List Item) → Each Judged items → first_of items ≡ None → AreGood items
goods-judged [] js e = none
goods-judged (i ∷ items) js e = good-at i items (parsed_item i) refl js.0 e (goods-judged items js.1)

judged-row : (i : Item) (o : Option Fitting) → row_of i.sort i.value ≡ o → ((j : Item) → depth_of j.value < depth_of i.value → Judged j) → Judged i
judged-row i None was all =
    let err : parsed_item i ≡ Err i.value = parsed-is i ∙ ap (planted parsed_item i.value) was in
    record {
      refused = λ u e. (let same : i.value ≡ u = cc in subst (FirstBad i) same (here i was));
      taken = λ e. absurd (cc (ap bad err));
    }
judged-row i (Some f) was all =
    let js : Each Judged (subforms f) = subforms-under Judged i.sort i.value f was all in
    record {
      refused = λ u e. inside i u f was (firsts-judged (subforms f) js u (sym (bad-planted i f was) ∙ ap bad e));
      taken = λ e. by_row i f was (goods-judged (subforms f) js (sym (bad-planted i f was) ∙ e));
    }

judged-below : (n : ℕ) (i : Item) → depth_of i.value < n → Judged i
judged-below zero i below = absurd (omega (arith, below))
judged-below (suc n) i below = judged-row i (row_of i.sort i.value) refl (λ j less. judged-below n j (omega (arith, below, less)))

judged : (i : Item) → Judged i
judged i = judged-below (suc (depth_of i.value)) i (omega arith)

-- what is refused is the first bad form, and nothing else is
pub refused-iff : (v u : Value) → (parsed v ≡ Err u) ↔ FirstBad (item sort.Form v) u
refused-iff v u = ((judged (item sort.Form v)).refused u, λ b. bad-err (parsed v) u (first-bad (item sort.Form v) u b))

-- what has a tree is good
pub taken-good : (v : Value) (t : Ast) → parsed v ≡ Ok t → IsGood (item sort.Form v)
taken-good v t e = (judged (item sort.Form v)).taken (ap bad e)

-- a good form has a tree
made-at : (v : Value) (m : Result Ast Value) → parsed v ≡ m → bad m ≡ None → (t : Ast) × (parsed v ≡ Ok t)
made-at v (Ok t) was e = (t, was)
made-at v (Err u) was e = absurd (cc)

pub good-taken : (v : Value) → IsGood (item sort.Form v) → (t : Ast) × (parsed v ≡ Ok t)
good-taken v g = made-at v (parsed v) refl (good-none (item sort.Form v) g)
