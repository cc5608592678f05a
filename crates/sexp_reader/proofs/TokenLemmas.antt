-- The tests on tokens say what the rules do.
use Rattle.std.proofs.Common.{◌≡◌, ℕ, ℤ, ◌+◌, ◌-◌, ◌^◌, ◌<◌, ◌≤◌, Bool, true, false, cond, not, ◌&&◌, ◌||◌, ◌==◌, ◌⊎◌, inl, inr, List, [], ◌∷◌, length, refl, ap, sym, subst, arith, pos, neg_ℤ, w64, codes}
use Rattle.std.specs.Prelude.{FitsSigned, Ok, Err, if◌then◌else◌, nat_le, nat_lt, slice_index}
use Rattle.std.specs.Char.{is_ascii_digit, to_ascii_uppercase, digit_value}
use Rattle.std.specs.List.{list_all, list_any}
use Rattle.std.specs.Str.Parse.{AllDigits, IsNumeral, digits_value, without_leading_sign, starts_with_minus}
use Rattle.std.proofs.lemmas.Bool.{and_parts, le-leb, lt-ltb, ltb-true, ltb-false, leb-true, eqb-true}
use Rattle.std.proofs.lemmas.Bool.Decides.{nat_tests}
use Rattle.lisp_data.specs.declared.sexp.Sexp.TheVariants as form
use Rattle.sexp_reader.specs.declared.fault.ReadFault.TheVariants.{NumberTooWide}
use Rattle.sexp_reader.specs.Atoms.{is_integer, integer_of, is_empty, is_number_like, is_increment, is_nil, has_good_colons, is_bad}
use Rattle.sexp_reader.specs.Tokens as t
use Rattle.sexp_reader.specs.Tokens.{spoils, begins_number, max_characters, IsNil, IsInteger, IsNoInteger, IsNumberLike, IsBad}
use Rattle.sexp_reader.proofs.BoolLemmas.{decide, false-true, or-parts, or-left, or-right, and-both}
use Rattle.sexp_reader.proofs.IntegerLemmas.{integer_parts, numeral_of, fits-negative, fits-positive, negative-fits, positive-fits}

-- ---- integers

digit_is : (c : ℕ) → digit_value c < 10 → is_ascii_digit c ≡ true
digit_is c h = grind (arith, nat_tests)

digits_are : (ds : List ℕ) → AllDigits 10 ds → list_all is_ascii_digit ds ≡ true
digits_are [] h = refl
digits_are (c ∷ cs) h = and-both (is_ascii_digit c) (list_all is_ascii_digit cs) (digit_is c h.0) (digits_are cs h.1)

some_digits : (ds : List ℕ) → 0 < length ds → not (is_empty ds) ≡ true
some_digits [] h = absurd (omega arith)
some_digits (c ∷ cs) h = refl

digit_high : (c : ℕ) → is_ascii_digit c ≡ true → 48 ≤ c
digit_high c h = grind (arith, nat_tests)

digit_low : (c : ℕ) → is_ascii_digit c ≡ true → c ≤ 57
digit_low c h = grind (arith, nat_tests)

other : (c n : ℕ) → (c ≡ n → ⊥) → (c == n) ≡ false
other c n h = elim (decide (c == n)) [ inl e ↦ absurd (h (eqb-true c n e)) | inr e ↦ e ]

-- a token with its sign and its digits
pub record Signed (token digits : List ℕ) (minus : Bool) : Type 0 where
  pub without : without_leading_sign token ≡ digits
  pub negative : starts_with_minus token ≡ minus

signed-bare : (ds : List ℕ) → IsNumeral 10 ds → Signed ds ds false
signed-bare [] h = absurd (let l = h.0 in omega arith)
signed-bare (c ∷ cs) h =
    let digit : is_ascii_digit c ≡ true = digit_is c h.1.0 in
    let high : 48 ≤ c = digit_high c digit in
    let no45 : (c == 45) ≡ false = other c 45 (λ e. omega arith) in
    let no43 : (c == 43) ≡ false = other c 43 (λ e. omega arith) in
    record { without = rw (no45, no43) refl; negative = no45 }

pub is_integer_by : (token digits : List ℕ) (minus : Bool) → Signed token digits minus → IsNumeral 10 digits → is_integer token ≡ true
unfolding is_integer
is_integer_by token digits minus s h = rw (s.without, some_digits digits h.0, digits_are digits h.1) refl

abbrev pub number : Bool → ℕ → ℤ
number minus m = cond minus (neg_ℤ (pos m)) (pos m)

in_range : (minus : Bool) (m : ℕ) → FitsSigned w64 (number minus m)
    → (if minus then (if nat_le m (2 ^ 63) then Ok (form.Int (neg_ℤ (pos m))) else Err NumberTooWide) else (if nat_lt m (2 ^ 63) then Ok (form.Int (pos m)) else Err NumberTooWide)) ≡ Ok (form.Int (number minus m))
in_range true m h = rw (le-leb m (2 ^ 63) (negative-fits m h)) refl
in_range false m h = rw (lt-ltb m (2 ^ 63) (positive-fits m h)) refl

out_of_range : (minus : Bool) (m : ℕ) → ¬ FitsSigned w64 (number minus m)
    → (if minus then (if nat_le m (2 ^ 63) then Ok (form.Int (neg_ℤ (pos m))) else Err NumberTooWide) else (if nat_lt m (2 ^ 63) then Ok (form.Int (pos m)) else Err NumberTooWide)) ≡ Err NumberTooWide
out_of_range true m h = elim (decide (nat_le m (2 ^ 63))) [ inl e ↦ absurd (h (fits-negative m (leb-true _ _ e))) | inr e ↦ rw e refl ]
out_of_range false m h = elim (decide (nat_lt m (2 ^ 63))) [ inl e ↦ absurd (h (fits-positive m (ltb-true _ _ e))) | inr e ↦ rw e refl ]

pub integer_in : (token digits : List ℕ) (minus : Bool) → Signed token digits minus → FitsSigned w64 (number minus (digits_value 10 digits)) → integer_of token ≡ Ok (form.Int (number minus (digits_value 10 digits)))
unfolding integer_of
integer_in token digits minus s h = rw (s.without, s.negative) (in_range minus (digits_value 10 digits) h)

pub integer_out : (token digits : List ℕ) (minus : Bool) → Signed token digits minus → ¬ FitsSigned w64 (number minus (digits_value 10 digits)) → integer_of token ≡ Err NumberTooWide
unfolding integer_of
integer_out token digits minus s h = rw (s.without, s.negative) (out_of_range minus (digits_value 10 digits) h)

-- what an integer is to the tests
pub record Parts (token : List ℕ) (z : ℤ) : Type 0 where
  pub digits : List ℕ
  pub minus : Bool
  pub signed : Signed token digits minus
  pub numeral : IsNumeral 10 digits
  pub is : z ≡ number minus (digits_value 10 digits)

pub parts : {token : List ℕ} {z : ℤ} → IsInteger token z → Parts token z
parts (t.bare digits h) = record { digits = digits; minus = false; signed = signed-bare digits h; numeral = h; is = refl }
parts (t.plus digits h) = record { digits = digits; minus = false; signed = record { without = refl; negative = refl }; numeral = h; is = refl }
parts (t.minus digits h) = record { digits = digits; minus = true; signed = record { without = refl; negative = refl }; numeral = h; is = refl }

pub integer-true : (token : List ℕ) (z : ℤ) → IsInteger token z → is_integer token ≡ true
integer-true token z h = let p = parts h in is_integer_by token p.digits p.minus p.signed p.numeral

integer-at : (c : ℕ) (cs : List ℕ) → not (is_empty (without_leading_sign (c ∷ cs))) ≡ true → list_all is_ascii_digit (without_leading_sign (c ∷ cs)) ≡ true → (z : ℤ) × IsInteger (c ∷ cs) z
integer-at c cs some all = elim (decide (c == 45)) [
  | inl e ↦ subst (λ d. (z : ℤ) × IsInteger (d ∷ cs) z) (sym (eqb-true c 45 e)) (neg_ℤ (pos (digits_value 10 cs)), t.minus cs (numeral_of cs (rw e at some) (rw e at all)))
  | inr e ↦ elim (decide (c == 43)) [
    | inl f ↦ subst (λ d. (z : ℤ) × IsInteger (d ∷ cs) z) (sym (eqb-true c 43 f)) (pos (digits_value 10 cs), t.plus cs (numeral_of cs (rw (e, f) at some) (rw (e, f) at all)))
    | inr f ↦ (pos (digits_value 10 (c ∷ cs)), t.bare (c ∷ cs) (numeral_of (c ∷ cs) (rw (e, f) at some) (rw (e, f) at all)))
  ]
]

-- a token that is an integer to the test is one
pub integer-found : (token : List ℕ) → is_integer token ≡ true → (z : ℤ) × IsInteger token z
integer-found [] h = let p = integer_parts [] h in false-true false refl p.0
integer-found (c ∷ cs) h = let p = integer_parts (c ∷ cs) h in integer-at c cs p.0 p.1

pub no_integer : (token : List ℕ) → is_integer token ≡ false → IsNoInteger token
no_integer token h z is = false-true (is_integer token) h (integer-true token z is)

-- ---- no character of an integer

none_of_digits : (p : ℕ → Bool) → ((c : ℕ) → is_ascii_digit c ≡ true → p c ≡ false) → (ds : List ℕ) → list_all is_ascii_digit ds ≡ true → list_any p ds ≡ false
none_of_digits p never [] h = refl
none_of_digits p never (c ∷ cs) h = let a = and_parts (is_ascii_digit c) (list_all is_ascii_digit cs) h in rw (never c a.0, none_of_digits p never cs a.1) refl

none_of : (p : ℕ → Bool) → ((c : ℕ) → is_ascii_digit c ≡ true → p c ≡ false) → p 43 ≡ false → p 45 ≡ false → {token : List ℕ} {z : ℤ} → IsInteger token z → list_any p token ≡ false
none_of p never a b (t.bare digits h) = none_of_digits p never digits (digits_are digits h.1)
none_of p never a b (t.plus digits h) = rw a (none_of_digits p never digits (digits_are digits h.1))
none_of p never a b (t.minus digits h) = rw b (none_of_digits p never digits (digits_are digits h.1))

digit_no_colon : (c : ℕ) → is_ascii_digit c ≡ true → (c == 58) ≡ false
digit_no_colon c h = let low : c ≤ 57 = digit_low c h in other c 58 (λ e. omega arith)

digit_no_spoiler : (c : ℕ) → is_ascii_digit c ≡ true → spoils c ≡ false
digit_no_spoiler c h =
    let low : c ≤ 57 = digit_low c h in
    let high : 48 ≤ c = digit_high c h in
    let a : (c == 92) ≡ false = other c 92 (λ e. omega arith) in
    let b : (c == 124) ≡ false = other c 124 (λ e. omega arith) in
    let d : (c == 44) ≡ false = other c 44 (λ e. omega arith) in
    let e : (c == 96) ≡ false = other c 96 (λ e. omega arith) in
    rw (a, b, d, e) refl

pub hash-none : (others : List ℕ) (z : ℤ) → IsInteger (35 ∷ others) z → ⊥
unfolding is_integer
hash-none others z is = false-true (is_integer (35 ∷ others)) refl (integer-true (35 ∷ others) z is)

colon-none : (z : ℤ) → IsInteger (58 ∷ []) z → ⊥
unfolding is_integer
colon-none z is = false-true (is_integer (58 ∷ [])) refl (integer-true (58 ∷ []) z is)

-- an integer of as many characters as a token may have is a good token
pub integer-good : {token : List ℕ} → IsBad token → (z : ℤ) → IsInteger token z → length token ≤ max_characters → ⊥
integer-good (t.begins_with_hash others) z is few = hash-none others z is
integer-good (t.is_spoiled token s) z is few = false-true (list_any spoils token) (none_of spoils digit_no_spoiler refl refl is) s
integer-good (t.is_too_long token long) z is few = absurd (omega arith)
integer-good (t.is_no_number token like never a b) z is few = never z is
integer-good (t.has_bad_colons token bad) z is few = bad (t.none token (none_of (λ c. c == 58) digit_no_colon refl refl is))
integer-good t.is_colon z is few = colon-none z is

-- ---- NIL

is_of : (c low high : ℕ) → (c == low || c == high) ≡ true → to_ascii_uppercase low ≡ high → to_ascii_uppercase high ≡ high → to_ascii_uppercase c ≡ high
is_of c low high h a b = elim (or-parts (c == low) (c == high) h) [
  | inl e ↦ subst (λ d. to_ascii_uppercase d ≡ high) (sym (eqb-true c low e)) a
  | inr e ↦ subst (λ d. to_ascii_uppercase d ≡ high) (sym (eqb-true c high e)) b
]

eq_refl : (n : ℕ) → (n == n) ≡ true
eq_refl n = grind (arith, nat_tests)

of_is : (c high : ℕ) → high < 91 → to_ascii_uppercase c ≡ high → (c == (high + 32) || c == high) ≡ true
of_is c high bound h = elim (decide (nat_lt c 97)) [
  | inl e ↦ or-right (c == (high + 32)) (c == high) (subst (λ d. (c == d) ≡ true) (rw e at h) (eq_refl c))
  | inr e ↦ elim (decide (nat_lt c 123)) [
    | inl f ↦
        let minus : c - 32 ≡ high = rw (e, f) at h in
        let above : 97 ≤ c = ltb-false c 97 e in
        let is : c ≡ high + 32 = omega arith in
        or-left (c == (high + 32)) (c == high) (subst (λ d. (c == d) ≡ true) is (eq_refl c))
    | inr f ↦ let same : c ≡ high = rw (e, f) at h in let above : 123 ≤ c = ltb-false c 123 f in absurd (omega arith)
  ]
]

pub nil-is : (token : List ℕ) → is_nil token ≡ true → IsNil token
nil-is [] h = absurd (cc)
nil-is (a ∷ []) h = absurd (cc)
nil-is (a ∷ b ∷ []) h = absurd (cc)
nil-is (a ∷ b ∷ c ∷ []) h =
    let p = and_parts (a == 110 || a == 78) ((b == 105 || b == 73) && (c == 108 || c == 76)) h in
    let q = and_parts (b == 105 || b == 73) (c == 108 || c == 76) p.1 in
    let x = is_of a 110 78 p.0 refl refl in
    let y = is_of b 105 73 q.0 refl refl in
    let z = is_of c 108 76 q.1 refl refl in
    cc
nil-is (a ∷ b ∷ c ∷ d ∷ ds) h = absurd (cc)

pub is-nil : (token : List ℕ) → IsNil token → is_nil token ≡ true
is-nil [] h = absurd (cc)
is-nil (a ∷ []) h = absurd (cc)
is-nil (a ∷ b ∷ []) h = absurd (cc)
is-nil (a ∷ b ∷ c ∷ []) h =
    let x : to_ascii_uppercase a ≡ 78 = cc in
    let y : to_ascii_uppercase b ≡ 73 = cc in
    let z : to_ascii_uppercase c ≡ 76 = cc in
    and-both _ _ (of_is a 78 (omega arith) x) (and-both _ _ (of_is b 73 (omega arith) y) (of_is c 76 (omega arith) z))
is-nil (a ∷ b ∷ c ∷ d ∷ ds) h = absurd (cc)

abbrev Clean : List ℕ → Type 0
Clean token = (is_integer token ≡ false) × (is_bad token ≡ false)

one_of : (P : ℕ → Type 0) (c low high : ℕ) → (c == low || c == high) ≡ true → P low → P high → P c
one_of P c low high h a b = elim (or-parts (c == low) (c == high) h) [
  | inl e ↦ subst P (sym (eqb-true c low e)) a
  | inr e ↦ subst P (sym (eqb-true c high e)) b
]

nil-at : (a b c : ℕ) → (a == 110 || a == 78) ≡ true → (b == 105 || b == 73) ≡ true → (c == 108 || c == 76) ≡ true → Clean (a ∷ b ∷ c ∷ [])
unfolding is_integer is_bad is_number_like has_good_colons
nil-at a b c x y z =
    one_of (λ a. Clean (a ∷ b ∷ c ∷ [])) a 110 78 x
    (one_of (λ b. Clean (110 ∷ b ∷ c ∷ [])) b 105 73 y
    (one_of (λ c. Clean (110 ∷ 105 ∷ c ∷ [])) c 108 76 z (refl, refl) (refl, refl))
    (one_of (λ c. Clean (110 ∷ 73 ∷ c ∷ [])) c 108 76 z (refl, refl) (refl, refl)))
    (one_of (λ b. Clean (78 ∷ b ∷ c ∷ [])) b 105 73 y
    (one_of (λ c. Clean (78 ∷ 105 ∷ c ∷ [])) c 108 76 z (refl, refl) (refl, refl))
    (one_of (λ c. Clean (78 ∷ 73 ∷ c ∷ [])) c 108 76 z (refl, refl) (refl, refl)))

pub nil-clean : (token : List ℕ) → is_nil token ≡ true → Clean token
nil-clean [] h = absurd (cc)
nil-clean (a ∷ []) h = absurd (cc)
nil-clean (a ∷ b ∷ []) h = absurd (cc)
nil-clean (a ∷ b ∷ c ∷ []) h =
    let p = and_parts (a == 110 || a == 78) ((b == 105 || b == 73) && (c == 108 || c == 76)) h in
    let q = and_parts (b == 105 || b == 73) (c == 108 || c == 76) p.1 in
    nil-at a b c p.0 q.0 q.1
nil-clean (a ∷ b ∷ c ∷ d ∷ ds) h = absurd (cc)

-- ---- numbers that are none

like-none : is_number_like [] ≡ true → IsNumberLike []
unfolding is_number_like
like-none h = absurd (cc)

like-minus : (cs : List ℕ) → begins_number (slice_index cs 0) ≡ true → IsNumberLike (45 ∷ cs)
like-minus [] h = absurd (cc)
like-minus (c ∷ cs) h = t.minus c cs h

like-plus : (cs : List ℕ) → begins_number (slice_index cs 0) ≡ true → IsNumberLike (43 ∷ cs)
like-plus [] h = absurd (cc)
like-plus (c ∷ cs) h = t.plus c cs h

like-at : (c : ℕ) (cs : List ℕ) → is_number_like (c ∷ cs) ≡ true → IsNumberLike (c ∷ cs)
unfolding is_number_like
like-at c cs h = elim (decide (c == 45)) [
  | inl e ↦ subst (λ d. IsNumberLike (d ∷ cs)) (sym (eqb-true c 45 e)) (like-minus cs (rw e at h))
  | inr e ↦ elim (decide (c == 43)) [
    | inl f ↦ subst (λ d. IsNumberLike (d ∷ cs)) (sym (eqb-true c 43 f)) (like-plus cs (rw (e, f) at h))
    | inr f ↦ t.bare c cs (rw (e, f) at h)
  ]
]

pub number-like : (token : List ℕ) → is_number_like token ≡ true → IsNumberLike token
number-like [] h = like-none h
number-like (c ∷ cs) h = like-at c cs h

begins_high : (c : ℕ) → begins_number c ≡ true → (45 < c)
begins_high c h = elim (or-parts (is_ascii_digit c) (c == 46) h) [
  | inl e ↦ let high : 48 ≤ c = digit_high c e in omega arith
  | inr e ↦ let is : c ≡ 46 = eqb-true c 46 e in omega arith
]

bare-like : (c : ℕ) (cs : List ℕ) → begins_number c ≡ true → is_number_like (c ∷ cs) ≡ true
unfolding is_number_like
bare-like c cs h =
    let high : 45 < c = begins_high c h in
    let no45 : (c == 45) ≡ false = other c 45 (λ e. omega arith) in
    let no43 : (c == 43) ≡ false = other c 43 (λ e. omega arith) in
    rw (no45, no43) h

like-is : {token : List ℕ} → IsNumberLike token → is_number_like token ≡ true
unfolding is_number_like
like-is (t.bare c others h) = bare-like c others h
like-is (t.plus c others h) = h
like-is (t.minus c others h) = h

pub is_like : {token : List ℕ} → IsNumberLike token → is_number_like token ≡ true
is_like h = like-is h

-- ---- `1+` and `1-`

increment-at : (a b : ℕ) → a ≡ 49 → (b ≡ 43) ⊎ (b ≡ 45) → (a ∷ b ∷ [] ≡ codes "1+") ⊎ (a ∷ b ∷ [] ≡ codes "1-")
increment-at a b e (inl f) = inl (cc)
increment-at a b e (inr f) = inr (cc)

either-is : (b x y : ℕ) → (b == x || b == y) ≡ true → (b ≡ x) ⊎ (b ≡ y)
either-is b x y h = elim (or-parts (b == x) (b == y) h) [ inl e ↦ inl (eqb-true b x e) | inr e ↦ inr (eqb-true b y e) ]

pub increment-is : (token : List ℕ) → is_increment token ≡ true → (token ≡ codes "1+") ⊎ (token ≡ codes "1-")
increment-is [] h = absurd (cc)
increment-is (a ∷ []) h = absurd (cc)
increment-is (a ∷ b ∷ []) h = let p = and_parts (a == 49) (b == 43 || b == 45) h in increment-at a b (eqb-true a 49 p.0) (either-is b 43 45 p.1)
increment-is (a ∷ b ∷ c ∷ cs) h = absurd (cc)

pub no_increment : (token : List ℕ) → ¬ (token ≡ codes "1+") → ¬ (token ≡ codes "1-") → is_increment token ≡ false
no_increment token a b = elim (decide (is_increment token)) [
  | inl e ↦ elim (increment-is token e) [ inl f ↦ absurd (a f) | inr f ↦ absurd (b f) ]
  | inr e ↦ e
]

pub increment-plus : (token : List ℕ) → is_increment token ≡ false → ¬ (token ≡ codes "1+")
increment-plus token h e = false-true (is_increment token) h (ap is_increment e)

pub increment-minus : (token : List ℕ) → is_increment token ≡ false → ¬ (token ≡ codes "1-")
increment-minus token h e = false-true (is_increment token) h (ap is_increment e)
