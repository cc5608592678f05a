-- A token in lower case: it is good, an integer or NIL exactly where the token itself is.
use mir.Syntax.{w64}
use Rattle.std.proofs.Common.{◌≡◌, ℕ, suc, ◌+◌, ◌^◌, ◌<◌, ◌≤◌, ◌⊎◌, inl, inr, Bool, false, ◌==◌, List, [], ◌∷◌, length, map, refl, sym, ap, subst, ◌∙◌, arith, pos, negsuc, neg_ℤ}
use Rattle.std.specs.Prelude.{ℤ, codes, FitsSigned}
use Rattle.std.specs.Char.{to_ascii_lowercase, to_ascii_uppercase}
use Rattle.std.specs.Fmt.{decimal, signed_decimal}
use Rattle.std.specs.List.{list_any}
use Rattle.std.specs.Str.Parse.{AllDigits, digits_value}
use Rattle.std.proofs.lemmas.Bool.{ne_eqb}
use Rattle.std.proofs.lemmas.Bool.Decides.{leb_tells, nat_tests}
use Rattle.std.proofs.lemmas.Fmt.{decimal_is_IsNumeral, length_signed_le}
use Rattle.std.proofs.lemmas.List.{map-append, length-map}
use Rattle.std.proofs.lemmas.Str.Ascii.{lowercase_is}
use Rattle.std.proofs.lemmas.Str.Parse.{digit_at}
use Rattle.sexp_reader.specs.Tokens.{ends_token, spoils, begins_number, has_colon, uppercase, IsInteger, IsNoInteger, IsNumberLike, HasGoodColons, IsBad, IsNil}

abbrev pub lower : List ℕ → List ℕ
lower token = map to_ascii_lowercase token

-- ---- one character

-- a character stays as it is, or is a letter that rises by 32
pub lower-cases : (c : ℕ) → (to_ascii_lowercase c ≡ c) ⊎ ((64 < c) × (to_ascii_lowercase c ≡ c + 32) × (c < 91))
lower-cases c = elim (leb_tells c 64) [
  | inl h ↦ inl ((lowercase_is c).1 (omega (arith, h.1)))
  | inr h ↦ elim (leb_tells c 90) [
    | inl g ↦ inr (h.1, (lowercase_is c).0 (omega (arith, h.1), omega (arith, g.1)), omega (arith, g.1))
    | inr g ↦ inl ((lowercase_is c).2 g.1)
  ]
]

-- what no letter is, in either case
letter : (p : ℕ → Bool) → ((c : ℕ) → 64 < c → c < 91 → p c ≡ false) → ((c : ℕ) → 96 < c → c < 123 → p c ≡ false) → (c : ℕ) → p (to_ascii_lowercase c) ≡ p c
letter p above below c = elim (lower-cases c) [
  | inl same ↦ ap p same
  | inr h ↦ ap p h.1 ∙ (below (c + 32) (omega (arith, h.0)) (omega (arith, h.2)) ∙ sym (above c h.0 h.2))
]

no_end : (c : ℕ) → 64 < c → ends_token c ≡ false
no_end c h = rw (
  ne_eqb c 32 (λ e. absurd (omega arith)),
  ne_eqb c 9 (λ e. absurd (omega arith)),
  ne_eqb c 10 (λ e. absurd (omega arith)),
  ne_eqb c 13 (λ e. absurd (omega arith)),
  ne_eqb c 12 (λ e. absurd (omega arith)),
  ne_eqb c 40 (λ e. absurd (omega arith)),
  ne_eqb c 41 (λ e. absurd (omega arith)),
  ne_eqb c 34 (λ e. absurd (omega arith)),
  ne_eqb c 59 (λ e. absurd (omega arith)),
  ne_eqb c 39 (λ e. absurd (omega arith)),
) refl

ends-lower : (c : ℕ) → ends_token (to_ascii_lowercase c) ≡ ends_token c
ends-lower c = letter ends_token (λ d a b. no_end d a) (λ d a b. no_end d (omega (arith, a))) c

no_spoil : (c : ℕ) → (c ≡ 92 → ⊥) → (c ≡ 124 → ⊥) → (c ≡ 44 → ⊥) → (c ≡ 96 → ⊥) → spoils c ≡ false
no_spoil c h1 h2 h3 h4 = rw (ne_eqb c 92 h1, ne_eqb c 124 h2, ne_eqb c 44 h3, ne_eqb c 96 h4) refl

spoils-lower : (c : ℕ) → spoils (to_ascii_lowercase c) ≡ spoils c
spoils-lower c = letter spoils
    (λ d a b. no_spoil d (λ e. absurd (omega arith)) (λ e. absurd (omega arith)) (λ e. absurd (omega arith)) (λ e. absurd (omega arith)))
    (λ d a b. no_spoil d (λ e. absurd (omega arith)) (λ e. absurd (omega arith)) (λ e. absurd (omega arith)) (λ e. absurd (omega arith))) c

colon-lower : (c : ℕ) → (to_ascii_lowercase c == 58) ≡ (c == 58)
colon-lower c = letter (λ d. d == 58) (λ d a b. ne_eqb d 58 (λ e. absurd (omega arith))) (λ d a b. ne_eqb d 58 (λ e. absurd (omega arith))) c

no_number : (c : ℕ) → 64 < c → begins_number c ≡ false
no_number c h = grind (arith, nat_tests)

number-lower : (c : ℕ) → begins_number (to_ascii_lowercase c) ≡ begins_number c
number-lower c = letter begins_number (λ d a b. no_number d a) (λ d a b. no_number d (omega (arith, a))) c

-- a character below the letters is its own lower case alone
lower-back : (c k : ℕ) → k < 65 → to_ascii_lowercase c ≡ k → c ≡ k
lower-back c k h e = elim (lower-cases c) [
  | inl same ↦ sym same ∙ e
  | inr g ↦ absurd (omega (arith, g.0, g.1))
]

-- ---- tokens

any-lower : (p : ℕ → Bool) → ((c : ℕ) → p (to_ascii_lowercase c) ≡ p c) → (cs : List ℕ) → list_any p (lower cs) ≡ list_any p cs
any-lower p same [] = refl
any-lower p same (c ∷ cs) = rw (same c, any-lower p same cs) refl

pub unbroken-lower : (cs : List ℕ) → list_any ends_token (lower cs) ≡ list_any ends_token cs
unbroken-lower cs = any-lower ends_token ends-lower cs

colons-lower : (cs : List ℕ) → has_colon (lower cs) ≡ has_colon cs
colons-lower cs = any-lower (λ c. c == 58) colon-lower cs

below-lower : (cs : List ℕ) → 0 < length cs → 0 < length (lower cs)
below-lower cs h = omega (arith, length-map cs to_ascii_lowercase)

good_colons-lower : {cs : List ℕ} → HasGoodColons cs → HasGoodColons (lower cs)
good_colons-lower (HasGoodColons.none cs clear) = HasGoodColons.none (lower cs) (colons-lower cs ∙ clear)
good_colons-lower (HasGoodColons.leading name clear) = HasGoodColons.leading (lower name) (colons-lower name ∙ clear)
good_colons-lower (HasGoodColons.one home name some clear some' clear') =
    subst HasGoodColons (sym (map-append to_ascii_lowercase home (58 ∷ name)))
    (HasGoodColons.one (lower home) (lower name) (below-lower home some) (colons-lower home ∙ clear) (below-lower name some') (colons-lower name ∙ clear'))
good_colons-lower (HasGoodColons.two home name some clear some' clear') =
    subst HasGoodColons (sym (map-append to_ascii_lowercase home (58 ∷ 58 ∷ name)))
    (HasGoodColons.two (lower home) (lower name) (below-lower home some) (colons-lower home ∙ clear) (below-lower name some') (colons-lower name ∙ clear'))

-- the first character and the others of a token, from those of its lower case
first : {c : ℕ} {cs : List ℕ} {d : ℕ} {ds : List ℕ} → c ∷ cs ≡ d ∷ ds → c ≡ d
first e = cc

others : {c : ℕ} {cs : List ℕ} {d : ℕ} {ds : List ℕ} → c ∷ cs ≡ d ∷ ds → cs ≡ ds
others e = cc

number_like-back : {t : List ℕ} → IsNumberLike t → (cs : List ℕ) → t ≡ lower cs → IsNumberLike cs
number_like-back (IsNumberLike.bare c more begins) [] e = absurd (cc)
number_like-back (IsNumberLike.bare c more begins) (d ∷ ds) e = IsNumberLike.bare d ds (sym (number-lower d) ∙ (ap begins_number (sym (first e)) ∙ begins))
number_like-back (IsNumberLike.plus c more begins) [] e = absurd (cc)
number_like-back (IsNumberLike.plus c more begins) (d ∷ []) e = let nothing : c ∷ more ≡ [] = others e in absurd (cc)
number_like-back (IsNumberLike.plus c more begins) (d ∷ f ∷ ds) e =
    subst (λ k. IsNumberLike (k ∷ f ∷ ds)) (sym (lower-back d 43 (omega arith) (sym (first e))))
    (IsNumberLike.plus f ds (sym (number-lower f) ∙ (ap begins_number (sym (first (others e))) ∙ begins)))
number_like-back (IsNumberLike.minus c more begins) [] e = absurd (cc)
number_like-back (IsNumberLike.minus c more begins) (d ∷ []) e = let nothing : c ∷ more ≡ [] = others e in absurd (cc)
number_like-back (IsNumberLike.minus c more begins) (d ∷ f ∷ ds) e =
    subst (λ k. IsNumberLike (k ∷ f ∷ ds)) (sym (lower-back d 45 (omega arith) (sym (first e))))
    (IsNumberLike.minus f ds (sym (number-lower f) ∙ (ap begins_number (sym (first (others e))) ∙ begins)))

digit_below : (d : ℕ) (ds : List ℕ) → AllDigits 10 (d ∷ ds) → (47 < d) × (d < 58)
digit_below d ds all = let r = digit_at (d ∷ ds) 0 all (omega arith) in (omega (arith, r.0), omega (arith, r.1))

digits-back : (ds cs : List ℕ) → AllDigits 10 ds → ds ≡ lower cs → cs ≡ ds
digits-back [] [] all e = refl
digits-back [] (c ∷ cs) all e = absurd (cc)
digits-back (d ∷ ds) [] all e = absurd (cc)
digits-back (d ∷ ds) (c ∷ cs) all e =
    let b = digit_below d ds all in
    let head : c ≡ d = lower-back c d (omega (arith, b.1)) (sym (first e)) in
    let tail : cs ≡ ds = digits-back ds cs all.1 (others e) in
    cc

integer-back : {t : List ℕ} {z : ℤ} → IsInteger t z → (cs : List ℕ) → t ≡ lower cs → IsInteger cs z
integer-back (IsInteger.bare digits number) cs e = subst (λ t. IsInteger t (pos (digits_value 10 digits))) (sym (digits-back digits cs number.1 e)) (IsInteger.bare digits number)
integer-back (IsInteger.plus digits number) [] e = absurd (cc)
integer-back (IsInteger.plus digits number) (c ∷ cs) e =
    let head : c ≡ 43 = lower-back c 43 (omega arith) (sym (first e)) in
    let tail : cs ≡ digits = digits-back digits cs number.1 (others e) in
    let same : 43 ∷ digits ≡ c ∷ cs = cc in
    subst (λ t. IsInteger t (pos (digits_value 10 digits))) same (IsInteger.plus digits number)
integer-back (IsInteger.minus digits number) [] e = absurd (cc)
integer-back (IsInteger.minus digits number) (c ∷ cs) e =
    let head : c ≡ 45 = lower-back c 45 (omega arith) (sym (first e)) in
    let tail : cs ≡ digits = digits-back digits cs number.1 (others e) in
    let same : 45 ∷ digits ≡ c ∷ cs = cc in
    subst (λ t. IsInteger t (neg_ℤ (pos (digits_value 10 digits)))) same (IsInteger.minus digits number)

pub no_integer-lower : (cs : List ℕ) → IsNoInteger cs → IsNoInteger (lower cs)
no_integer-lower cs none z is = none z (integer-back is cs refl)

bad-back : {t : List ℕ} → IsBad t → (cs : List ℕ) → IsNoInteger cs → t ≡ lower cs → IsBad cs
bad-back (IsBad.begins_with_hash more) [] none e = absurd (cc)
bad-back (IsBad.begins_with_hash more) (c ∷ cs) none e = subst (λ k. IsBad (k ∷ cs)) (sym (lower-back c 35 (omega arith) (sym (first e)))) (IsBad.begins_with_hash cs)
bad-back (IsBad.is_spoiled t some) cs none e = IsBad.is_spoiled cs (sym (any-lower spoils spoils-lower cs) ∙ (ap (list_any spoils) (sym e) ∙ some))
bad-back (IsBad.is_too_long t long) cs none e = IsBad.is_too_long cs (omega (arith, length-map cs to_ascii_lowercase, ap length e, long))
bad-back (IsBad.is_no_number t like nowhere plus minus) cs none e =
    IsBad.is_no_number cs (number_like-back like cs e) none (λ same. plus (e ∙ ap lower same)) (λ same. minus (e ∙ ap lower same))
bad-back (IsBad.has_bad_colons t bad) cs none e = IsBad.has_bad_colons cs (λ good. bad (subst HasGoodColons (sym e) (good_colons-lower good)))
bad-back IsBad.is_colon [] none e = absurd (cc)
bad-back IsBad.is_colon (c ∷ []) none e = subst (λ k. IsBad (k ∷ [])) (sym (lower-back c 58 (omega arith) (sym (first e)))) IsBad.is_colon
bad-back IsBad.is_colon (c ∷ d ∷ cs) none e = let nothing : [] ≡ to_ascii_lowercase d ∷ lower cs = others e in absurd (cc)

pub good-lower : (cs : List ℕ) → IsNoInteger cs → ¬ IsBad cs → ¬ IsBad (lower cs)
good-lower cs none good bad = good (bad-back bad cs none refl)

upper-lower : (c : ℕ) → to_ascii_uppercase (to_ascii_lowercase c) ≡ to_ascii_uppercase c
upper-lower c = grind (arith, nat_tests)

pub uppercase-lower : (cs : List ℕ) → uppercase (lower cs) ≡ uppercase cs
uppercase-lower [] = refl
uppercase-lower (c ∷ cs) = rw (upper-lower c, uppercase-lower cs) refl

pub not_nil-lower : (cs : List ℕ) → uppercase cs ≡ cs → ¬ (cs ≡ codes "NIL") → ¬ IsNil (lower cs)
not_nil-lower cs upper other is = other (sym upper ∙ (sym (uppercase-lower cs) ∙ is))

-- ---- what an integer is written as

digits_unbroken : (ds : List ℕ) → AllDigits 10 ds → list_any ends_token ds ≡ false
digits_unbroken [] all = refl
digits_unbroken (d ∷ ds) all = rw (digit_ends d (digit_below d ds all).0 (digit_below d ds all).1, digits_unbroken ds all.1) refl
  where
    digit_ends : (c : ℕ) → 47 < c → c < 58 → ends_token c ≡ false
    digit_ends c h g = rw (
      ne_eqb c 32 (λ e. absurd (omega arith)),
      ne_eqb c 9 (λ e. absurd (omega arith)),
      ne_eqb c 10 (λ e. absurd (omega arith)),
      ne_eqb c 13 (λ e. absurd (omega arith)),
      ne_eqb c 12 (λ e. absurd (omega arith)),
      ne_eqb c 40 (λ e. absurd (omega arith)),
      ne_eqb c 41 (λ e. absurd (omega arith)),
      ne_eqb c 34 (λ e. absurd (omega arith)),
      ne_eqb c 59 (λ e. absurd (omega arith)),
      ne_eqb c 39 (λ e. absurd (omega arith)),
    ) refl

pub integer-own : (z : ℤ) → FitsSigned w64 z → IsInteger (signed_decimal z) z
integer-own (pos n) h =
    let fits : n < 2 ^ 63 = h.sfits in
    let d = decimal_is_IsNumeral n (omega (arith, fits)) in
    subst (λ m. IsInteger (decimal n) (pos m)) d.1 (IsInteger.bare (decimal n) d.0)
integer-own (negsuc n) h =
    let fits : n < 2 ^ 63 = h.sfits in
    let d = decimal_is_IsNumeral (suc n) (omega (arith, fits)) in
    subst (λ m. IsInteger (45 ∷ decimal (suc n)) (neg_ℤ (pos m))) d.1 (IsInteger.minus (decimal (suc n)) d.0)

pub integer_unbroken : (z : ℤ) → FitsSigned w64 z → list_any ends_token (signed_decimal z) ≡ false
integer_unbroken (pos n) h =
    let fits : n < 2 ^ 63 = h.sfits in
    digits_unbroken (decimal n) (decimal_is_IsNumeral n (omega (arith, fits))).0.1
integer_unbroken (negsuc n) h =
    let fits : n < 2 ^ 63 = h.sfits in
    digits_unbroken (decimal (suc n)) (decimal_is_IsNumeral (suc n) (omega (arith, fits))).0.1

pub integer_not_empty : (z : ℤ) → FitsSigned w64 z → 0 < length (signed_decimal z)
integer_not_empty (pos n) h =
    let fits : n < 2 ^ 63 = h.sfits in
    (decimal_is_IsNumeral n (omega (arith, fits))).0.0
integer_not_empty (negsuc n) h = omega arith

pub integer_short : (z : ℤ) → FitsSigned w64 z → length (signed_decimal z) ≤ 1000
integer_short (pos n) h = let fits : n < 2 ^ 63 = h.sfits in omega (arith, length_signed_le 19 (pos n) (omega (arith, fits)) fits)
integer_short (negsuc n) h = let fits : n < 2 ^ 63 = h.sfits in omega (arith, length_signed_le 19 (negsuc n) (omega (arith, fits)) fits)
