-- The length of a number's digits.
use Rattle.std.proofs.Common.{◌≡◌, ◌≢◌, ℕ, zero, suc, ◌+◌, ◌-◌, ◌/◌, ◌%◌, ◌++◌, Bool, true, false, List, [], ◌∷◌, length, refl, ap, ◌∙◌, arith}
use Rattle.std.proofs.lemmas.Bool.{ne_eqb}
use Rattle.std.specs.Prelude.{◌==◌, if◌then◌else◌, ℤ, pos, codes, int_lt, unsigned_abs}
use Rattle.std.specs.Fmt.{digits, digits_onto, digit_glyph}
use Rattle.lisp_format.specs.Hexadecimal.{hexadecimal}

-- one digit more before those of the rest, or none of them
one_more : (ends : Bool) (g : ℕ) (rest : List ℕ → List ℕ) (acc : List ℕ) → ((a : List ℕ) → length (rest a) ≡ length (rest []) + length a) → length (if ends then g ∷ acc else rest (g ∷ acc)) ≡ length (if ends then g ∷ [] else rest (g ∷ [])) + length acc
one_more true g rest acc adds = omega arith
one_more false g rest acc adds =
    let with : length (rest (g ∷ acc)) ≡ length (rest []) + length (g ∷ acc) = adds (g ∷ acc) in
    let without : length (rest (g ∷ [])) ≡ length (rest []) + length (g ∷ []) = adds (g ∷ []) in
    omega arith

-- digits before others add their number
length-digits_onto : (k n : ℕ) (acc : List ℕ) → length (digits_onto k 16 true n acc) ≡ length (digits_onto k 16 true n []) + length acc
length-digits_onto zero n acc = omega arith
length-digits_onto (suc k) n acc = one_more (n / 16 == 0) (digit_glyph true (n % 16)) (digits_onto k 16 true (n / 16)) acc (length-digits_onto k (n / 16))

more_at : (ends : Bool) (g : ℕ) (rest : List ℕ → List ℕ) → ends ≡ false → length (rest (g ∷ [])) ≡ length (rest []) + 1 → 1 + length (rest []) ≡ length (if ends then g ∷ [] else rest (g ∷ []))
more_at true g rest ends adds = cc
more_at false g rest ends adds = omega arith

-- one digit more than those of a sixteenth
pub digits-more : (k n : ℕ) → k ≢ 0 → n / 16 ≢ 0 → 1 + length (digits_onto (k - 1) 16 true (n / 16) []) ≡ length (digits_onto k 16 true n [])
digits-more zero n some more = absurd (some refl)
digits-more (suc k) n some more =
    let less : suc k - 1 ≡ k = omega arith in
    ap (λ j. 1 + length (digits_onto j 16 true (n / 16) [])) less
    ∙ more_at (n / 16 == 0) (digit_glyph true (n % 16)) (digits_onto k 16 true (n / 16)) (ne_eqb (n / 16) 0 more) (length-digits_onto k (n / 16) (digit_glyph true (n % 16) ∷ []))

-- what std calls the digits are those at up to 64 places
pub digits-at : (n : ℕ) → digits_onto 64 16 true n [] ≡ digits 16 true n
unfolding digits
digits-at n = refl

minus_text : (negative : Bool) (text : List ℕ) (n : ℕ) → negative ≡ true → n ≡ length text → n + 1 ≡ length ((if negative then codes "-" else []) ++ text)
minus_text true text n e size = omega arith
minus_text false text n e size = cc

plain_text : (negative : Bool) (text : List ℕ) (n : ℕ) → negative ≡ false → n ≡ length text → n ≡ length ((if negative then codes "-" else []) ++ text)
plain_text true text n e size = cc
plain_text false text n e size = size

pub length-hexadecimal-minus : (z : ℤ) (n : ℕ) → int_lt z (pos 0) ≡ true → n ≡ length (digits 16 true (unsigned_abs z)) → n + 1 ≡ length (hexadecimal z)
unfolding hexadecimal
length-hexadecimal-minus z n = minus_text (int_lt z (pos 0)) (digits 16 true (unsigned_abs z)) n

pub length-hexadecimal : (z : ℤ) (n : ℕ) → int_lt z (pos 0) ≡ false → n ≡ length (digits 16 true (unsigned_abs z)) → n ≡ length (hexadecimal z)
unfolding hexadecimal
length-hexadecimal z n = plain_text (int_lt z (pos 0)) (digits 16 true (unsigned_abs z)) n
