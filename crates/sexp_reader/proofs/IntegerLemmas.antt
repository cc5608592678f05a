-- Integers: their text, and those out of range.
use Rattle.std.proofs.Common.{◌≡◌, ℕ, ◌^◌, ◌<◌, ◌≤◌, Bool, true, false, cond, leb, ltb, not, List, [], ◌∷◌, ◌++◌, length, zero, suc, refl, ap₂, arith, rules, pos, neg_ℤ, w64, encode_utf8_all}
use Rattle.std.specs.Prelude.{FitsSigned, Ok, Err, Result, if◌then◌else◌, nat_le, nat_lt, ◌==◌}
use Rattle.std.proofs.Common.{inl, inr}
use Rattle.std.specs.Char.{is_ascii_digit}
use Rattle.std.specs.List.{list_all}
use Rattle.std.specs.Str.Parse.{AllDigits, IsNumeral, digits_value, signed_digits_value, without_leading_sign, starts_with_minus}
use Rattle.std.proofs.lemmas.Bool.{and_parts, leb-true, ltb-true, eqb-true}
use Rattle.std.proofs.lemmas.Bool.Decides.{nat_tests}
use Rattle.std.proofs.lemmas.Int.{ints}
use Rattle.lisp_data.specs.declared.sexp.Sexp.{Sexp}
use Rattle.lisp_data.specs.declared.sexp.Sexp.TheVariants as form
use Rattle.sexp_reader.specs.declared.fault.ReadFault.{ReadFault}
use Rattle.sexp_reader.specs.declared.fault.ReadFault.TheVariants.{NumberTooWide}
use Rattle.sexp_reader.specs.Atoms.{is_integer, integer_of, is_empty}
use Rattle.sexp_reader.specs.Tokens.{uppercase}
use Rattle.sexp_reader.proofs.BoolLemmas.{decide}
use Rattle.sexp_reader.proofs.TextLemmas.{one_octet, digits_octets}

digits-all : (ds : List ℕ) → list_all is_ascii_digit ds ≡ true → AllDigits 10 ds
digits-all [] h = tt
digits-all (c ∷ cs) h = let p = and_parts (is_ascii_digit c) (list_all is_ascii_digit cs) h in (grind (arith, nat_tests, p.0), digits-all cs p.1)

not_empty : (ds : List ℕ) → not (is_empty ds) ≡ true → 0 < length ds
not_empty [] h = absurd (cc)
not_empty (c ∷ cs) h = omega arith

pub numeral_of : (ds : List ℕ) → not (is_empty ds) ≡ true → list_all is_ascii_digit ds ≡ true → IsNumeral 10 ds
numeral_of ds some digits = (not_empty ds some, digits-all ds digits)

pub integer_parts : (token : List ℕ) → is_integer token ≡ true → (not (is_empty (without_leading_sign token)) ≡ true) × (list_all is_ascii_digit (without_leading_sign token) ≡ true)
unfolding is_integer
integer_parts token h = let p = and_parts (not (is_empty (without_leading_sign token))) (list_all is_ascii_digit (without_leading_sign token)) h in (p.0, p.1)

pub numeral : (token : List ℕ) → is_integer token ≡ true → IsNumeral 10 (without_leading_sign token)
numeral token h = let p = integer_parts token h in numeral_of _ p.0 p.1

-- ---- the text

signed_octets : (c : ℕ) (cs : List ℕ) → c < 97 → list_all is_ascii_digit cs ≡ true → encode_utf8_all (uppercase (c ∷ cs)) ≡ c ∷ cs
signed_octets c cs h digits = ap₂ (λ (a b : List ℕ). a ++ b) (one_octet c h) (digits_octets cs digits)

octets_at : (c : ℕ) (cs : List ℕ) → list_all is_ascii_digit (without_leading_sign (c ∷ cs)) ≡ true → encode_utf8_all (uppercase (c ∷ cs)) ≡ c ∷ cs
octets_at c cs h = elim (decide (c == 45)) [
  | inl e ↦ let is : c ≡ 45 = eqb-true c 45 e in signed_octets c cs (omega arith) (rw e at h)
  | inr e ↦ elim (decide (c == 43)) [
    | inl f ↦ let is : c ≡ 43 = eqb-true c 43 f in signed_octets c cs (omega arith) (rw (e, f) at h)
    | inr f ↦ digits_octets (c ∷ cs) (rw (e, f) at h)
  ]
]

-- the text of an integer is its characters
pub integer_octets : (token : List ℕ) → is_integer token ≡ true → encode_utf8_all (uppercase token) ≡ token
integer_octets [] h = refl
integer_octets (c ∷ cs) h = octets_at c cs (integer_parts (c ∷ cs) h).1

-- ---- the range

abbrev choice : Bool → ℕ → Result Sexp ReadFault
choice minus m =
    if minus
    then (if nat_le m (2 ^ 63) then Ok (form.Int (neg_ℤ (pos m))) else Err NumberTooWide)
    else (if nat_lt m (2 ^ 63) then Ok (form.Int (pos m)) else Err NumberTooWide)

above : (b : Bool) (x y : Result Sexp ReadFault) → (b ≡ true → ⊥) → y ≡ cond b x y
above true x y n = absurd (n refl)
above false x y n = refl

pub fits-negative : (m : ℕ) → m ≤ 2 ^ 63 → FitsSigned w64 (neg_ℤ (pos m))
fits-negative zero h = first_of (omega (arith, ints), search rules, grind (arith, ints))
fits-negative (suc m) h = first_of (omega (arith, ints), search rules, grind (arith, ints))

pub fits-positive : (m : ℕ) → m < 2 ^ 63 → FitsSigned w64 (pos m)
fits-positive m h = first_of (omega (arith, ints), search rules, grind (arith, ints))

pub negative-fits : (m : ℕ) → FitsSigned w64 (neg_ℤ (pos m)) → m ≤ 2 ^ 63
negative-fits zero h = first_of (omega (arith, ints), grind (arith, ints))
negative-fits (suc m) h = first_of (omega (arith, ints), grind (arith, ints))

pub positive-fits : (m : ℕ) → FitsSigned w64 (pos m) → m < 2 ^ 63
positive-fits m h = first_of (omega (arith, ints), grind (arith, ints))

choice-wide : (minus : Bool) (m : ℕ) → (FitsSigned w64 (cond minus (neg_ℤ (pos m)) (pos m)) → ⊥) → Err NumberTooWide ≡ choice minus m
choice-wide true m n = above (leb m (2 ^ 63)) _ _ (λ e. n (fits-negative m (leb-true _ _ e)))
choice-wide false m n = above (ltb m (2 ^ 63)) _ _ (λ e. n (fits-positive m (ltb-true _ _ e)))

pub too_wide : (token : List ℕ) → is_integer token ≡ true → (IsNumeral 10 (without_leading_sign token) × FitsSigned w64 (signed_digits_value 10 token) → ⊥)
    → ◌≡◌ {A = Result Sexp ReadFault} (Err NumberTooWide) (integer_of token)
unfolding integer_of
too_wide token h n = choice-wide (starts_with_minus token) (digits_value 10 (without_leading_sign token)) (λ fits. n (numeral token h, fits))
