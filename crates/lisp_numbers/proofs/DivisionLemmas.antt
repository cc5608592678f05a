-- What is left behind a quotient, as the code computes it.
use Rattle.std.proofs.Common.{rules, subst, ◌≡◌, ℕ, ◌+◌, ◌/◌, ◌%◌, suc, zero, true, false, refl, sym, ◌∙◌, ap, arith, ℤ, pos, ◌+ℤ◌, ◌-ℤ◌, ◌*ℤ◌, neg_ℤ}
use Rattle.std.specs.Prelude.{negsuc, int_div, int_rem, min, if◌then◌else◌}
use Rattle.std.specs.Ordering.{int_eq}
use Rattle.std.proofs.lemmas.Int.{ints, quot-rem}
use Rattle.std.proofs.lemmas.Bool.Decides.{nat_tests}
use Rattle.lisp_numbers.specs.Division.{truncated, floored, left_by, are_opposite, divided}
use Rattle.lisp_numbers.specs.Range.{fits, ranged}
use Rattle.lisp_numbers.specs.declared.computed.Computed.TheVariants.{Number}
use lib.IntN.{pred_ℤ}
use Rattle.std.proofs.Math.IntN.{pred_ℤ-*ℤ}
use mir.Val.{SFits, of_z}
use mir.Syntax.{w64}

same_quotient : (a b : ℤ) → truncated a b ≡ int_div a b
same_quotient (pos a) (pos b) = refl
same_quotient (pos a) (negsuc b) = refl
same_quotient (negsuc a) (pos b) = refl
same_quotient (negsuc a) (negsuc b) = refl

apart : (a p r : ℤ) → p +ℤ r ≡ a → a -ℤ p ≡ r
apart a p r e = omega (arith, ints)

apart_by : (a b p r : ℤ) → p +ℤ r ≡ a → a -ℤ (p -ℤ b) ≡ r +ℤ b
apart_by a b p r e = omega (arith, ints)

-- what is left behind the quotient rounded towards 0 is what `%` computes
pub left_truncated : (a b : ℤ) → left_by truncated a b ≡ int_rem a b
left_truncated a b = ap (λ q. a -ℤ (q *ℤ b)) (same_quotient a b) ∙ apart a (int_div a b *ℤ b) (int_rem a b) (quot-rem a b)

-- what is left behind the quotient rounded down: the same, and the divisor where the signs differ
abbrev pub moved : ℤ → ℤ → ℤ
moved a b = if are_opposite (int_rem a b) b then int_rem a b +ℤ b else int_rem a b

kept_there : (a b : ℤ) → floored a b ≡ int_div a b → are_opposite (int_rem a b) b ≡ false → left_by floored a b ≡ moved a b
kept_there a b f o = ap (λ q. a -ℤ (q *ℤ b)) f ∙ (apart a (int_div a b *ℤ b) (int_rem a b) (quot-rem a b) ∙ sym (ap (λ t. if t then int_rem a b +ℤ b else int_rem a b) o))

moved_there : (a b : ℤ) → floored a b ≡ pred_ℤ (int_div a b) → are_opposite (int_rem a b) b ≡ true → left_by floored a b ≡ moved a b
moved_there a b f o =
    ap (λ q. a -ℤ (q *ℤ b)) f ∙ (ap (λ p. a -ℤ p) (pred_ℤ-*ℤ (int_div a b) b) ∙ (apart_by a b (int_div a b *ℤ b) (int_rem a b) (quot-rem a b) ∙ sym (ap (λ t. if t then int_rem a b +ℤ b else int_rem a b) o)))

both_up : (r b : ℕ) → are_opposite (pos r) (pos b) ≡ false
both_up zero b = refl
both_up (suc r) b = refl

both_down : (r b : ℕ) → are_opposite (neg_ℤ (pos r)) (negsuc b) ≡ false
both_down zero b = refl
both_down (suc r) b = refl

same_size : (q r : ℕ) → r ≡ 0 → neg_ℤ (pos (q + min 1 r)) ≡ neg_ℤ (pos q)
same_size q r e = ap (λ n. neg_ℤ (pos n)) (omega arith)

next_size : (q : ℕ) → neg_ℤ (pos (q + 1)) ≡ pred_ℤ (neg_ℤ (pos q))
next_size zero = refl
next_size (suc q) = let e : suc q + 1 ≡ suc (suc q) = omega arith in ap (λ n. neg_ℤ (pos n)) e

larger_size : (q r : ℕ) (s : ℕ) → r ≡ suc s → neg_ℤ (pos (q + min 1 r)) ≡ pred_ℤ (neg_ℤ (pos q))
larger_size q r s e = let one : q + min 1 r ≡ q + 1 = omega arith in ap (λ n. neg_ℤ (pos n)) one ∙ next_size q

up_over_down : (a b r : ℕ) → a % suc b ≡ r → left_by floored (pos a) (negsuc b) ≡ moved (pos a) (negsuc b)
up_over_down a b zero e = kept_there (pos a) (negsuc b) (same_size (a / suc b) (a % suc b) e) (ap (λ n. are_opposite (pos n) (negsuc b)) e)
up_over_down a b (suc r) e = moved_there (pos a) (negsuc b) (larger_size (a / suc b) (a % suc b) r e) (ap (λ n. are_opposite (pos n) (negsuc b)) e)

down_over_up : (a b r : ℕ) → suc a % suc b ≡ r → left_by floored (negsuc a) (pos (suc b)) ≡ moved (negsuc a) (pos (suc b))
down_over_up a b zero e = kept_there (negsuc a) (pos (suc b)) (same_size (suc a / suc b) (suc a % suc b) e) (ap (λ n. are_opposite (neg_ℤ (pos n)) (pos (suc b))) e)
down_over_up a b (suc r) e = moved_there (negsuc a) (pos (suc b)) (larger_size (suc a / suc b) (suc a % suc b) r e) (ap (λ n. are_opposite (neg_ℤ (pos n)) (pos (suc b))) e)

pub left_floored : (a b : ℤ) → (of_z w64 b ≡ 0 → ⊥) → left_by floored a b ≡ moved a b
left_floored (pos a) (pos b) h = kept_there (pos a) (pos b) refl (both_up (a % b) b)
left_floored (pos a) (negsuc b) h = up_over_down a b (a % suc b) refl
left_floored (negsuc a) (pos zero) h = absurd (h refl)
left_floored (negsuc a) (pos (suc b)) h = down_over_up a b (suc a % suc b) refl
left_floored (negsuc a) (negsuc b) h = kept_there (negsuc a) (negsuc b) refl (both_down (suc a % suc b) b)

fitting : (z : ℤ) → SFits w64 z → fits z ≡ true
fitting (pos n) f = grind (arith, nat_tests, f.sfits)
fitting (negsuc n) f = grind (arith, nat_tests, f.sfits)

nonzero : (b : ℤ) → (of_z w64 b ≡ 0 → ⊥) → int_eq b (pos 0) ≡ false
nonzero (pos zero) h = absurd (h refl)
nonzero (pos (suc n)) h = grind (arith, nat_tests)
nonzero (negsuc n) h = refl

-- a number that 64 bits hold is what is computed by a divisor other than 0
pub numbered : (b z n : ℤ) → (of_z w64 b ≡ 0 → ⊥) → SFits w64 z → n ≡ z → Number n ≡ divided b (ranged z)
numbered b z n h f e =
    let zero_test : int_eq b (pos 0) ≡ false = nonzero b h in
    let range_test : fits z ≡ true = fitting z f in
    rw (zero_test, range_test, e) refl

pub opposite_fits : (r b : ℤ) → SFits w64 r → SFits w64 b → are_opposite r b ≡ true → SFits w64 (r +ℤ b)
opposite_fits (pos zero) b f g o = absurd (cc)
opposite_fits (pos (suc r)) (pos b) f g o = absurd (cc)
opposite_fits (pos (suc r)) (negsuc b) f g o = search (rules, ints, f, g)
opposite_fits (negsuc r) (pos zero) f g o = absurd (cc)
opposite_fits (negsuc r) (pos (suc b)) f g o = search (rules, ints, f, g)
opposite_fits (negsuc r) (negsuc b) f g o = absurd (cc)

-- what is left where the signs differ
pub mod_moved : (a b r s : ℤ) → (of_z w64 b ≡ 0 → ⊥) → SFits w64 r → SFits w64 b → r ≡ int_rem a b → are_opposite r b ≡ true → s ≡ r +ℤ b → Number s ≡ divided b (ranged (left_by floored a b))
mod_moved a b r s h f g was test is =
    let now_test : are_opposite (int_rem a b) b ≡ true = cc in
    let now : moved a b ≡ int_rem a b +ℤ b = rw now_test refl in
    let left : r +ℤ b ≡ left_by floored a b = ap (λ n. n +ℤ b) was ∙ sym (left_floored a b h ∙ now) in
    numbered b (left_by floored a b) s h (subst (SFits w64) left (opposite_fits r b f g test)) (is ∙ left)

-- what is left where they don't
pub mod_kept : (a b r s : ℤ) → (of_z w64 b ≡ 0 → ⊥) → SFits w64 r → r ≡ int_rem a b → are_opposite r b ≡ false → s ≡ r → Number s ≡ divided b (ranged (left_by floored a b))
mod_kept a b r s h f was test is =
    let now_test : are_opposite (int_rem a b) b ≡ false = cc in
    let now : moved a b ≡ int_rem a b = rw now_test refl in
    let left : r ≡ left_by floored a b = was ∙ sym (left_floored a b h ∙ now) in
    numbered b (left_by floored a b) s h (subst (SFits w64) left f) (is ∙ left)
