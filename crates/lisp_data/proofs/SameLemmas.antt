-- Lists of different lengths are not the same.
use Rattle.std.proofs.Common.{◌≡◌, ◌≢◌, suc, ◌&&◌, Bool, true, false, List, [], ◌∷◌, map, length, refl, ap, ◌∙◌, sym}
use Rattle.lisp_data.specs.declared.value.Value.{Value}
use Rattle.lisp_data.specs.declared.value.Value.TheOpen.{Value-F}
use Rattle.lisp_data.specs.declared.value.Value.TheFolds.{fold-roll-Value}
use Rattle.lisp_data.specs.declared.value.Value.TheVariants as value
use Rattle.lisp_data.specs.declared.value.Value.TheVariants.{rolls-List, outs-List}
use Rattle.lisp_data.specs.declared.value.Value.TheViews.{out-Value}
use Rattle.lisp_data.specs.declared.value.Condition.{Condition}
use Rattle.lisp_data.specs.Same.{all_same, same_level, same_parts, same_value}

and_false : (b : Bool) → (b && false) ≡ false
and_false true = refl
and_false false = refl

pub all_same-lengths : (f : Value → Value → Bool) (xs ys : List Value) → length xs ≢ length ys → all_same (map f xs) ys ≡ false
all_same-lengths f [] [] h = absurd (h refl)
all_same-lengths f [] (y ∷ ys) h = refl
all_same-lengths f (x ∷ xs) [] h = refl
all_same-lengths f (x ∷ xs) (y ∷ ys) h = ap (λ (b : Bool). f x y && b) (all_same-lengths f xs ys (λ e. h (ap suc e))) ∙ and_false (f x y)

-- two lists are the same where their items are
same_value-lists : (xs ys : List Value) → same_value (value.List xs) (value.List ys) ≡ all_same (map same_value xs) ys
same_value-lists xs ys = ap (λ (v : Value). same_value v (value.List ys)) (sym (rolls-List xs)) ∙ (ap (λ (f : Value → Bool). f (value.List ys)) (fold-roll-Value (Value → Bool) (Condition → Bool) (λ a b. same_level a (out-Value b)) same_parts (Value-F.List xs)) ∙ ap (λ (o : Value-F Value Condition). same_level (Value-F.List (map same_value xs)) o) (outs-List ys))

pub same_value-lengths : (a b : Value) (xs ys : List Value) → a ≡ value.List xs → b ≡ value.List ys → length xs ≢ length ys → false ≡ same_value a b
same_value-lengths a b xs ys first second h =
    sym (ap (λ (v : Value). same_value v b) first ∙ (ap (λ (v : Value). same_value (value.List xs) v) second ∙ (same_value-lists xs ys ∙ all_same-lengths same_value xs ys h)))

-- equal lists have equal items
pub lists-equal : (a b : Value) (xs ys : List Value) → a ≡ value.List xs → b ≡ value.List ys → a ≡ b → xs ≡ ys
lists-equal a b xs ys first second equal =
    let levels : Value-F.List xs ≡ Value-F.List ys = sym (outs-List xs) ∙ (ap (λ (v : Value). out-Value v) (sym first ∙ (equal ∙ second)) ∙ outs-List ys) in cc
