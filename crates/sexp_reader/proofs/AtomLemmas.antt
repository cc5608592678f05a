-- The form of a token, by the rules.
use Rattle.std.proofs.Common.{◌≡◌, ℕ, ℤ, ◌^◌, ◌<◌, ◌≤◌, Bool, true, false, not, ◌&&◌, ◌||◌, ◌==◌, ◌⊎◌, inl, inr, List, [], ◌∷◌, ◌++◌, length, refl, ap, sym, subst, ◌∙◌, arith, append_assoc, w64, encode_utf8_all}
use Rattle.std.specs.Prelude.{FitsSigned, Ok, Err, if◌then◌else◌, nat_le, nat_lt}
use Rattle.std.specs.List.{list_any}
use Rattle.std.specs.Str.Parse.{digits_value}
use Rattle.std.proofs.lemmas.Bool.{and_parts, le-leb, lt-ltb, ltb-true, leb-true, leb-false, eqb-true}
use Rattle.lisp_data.specs.declared.sexp.Sexp.TheVariants as form
use Rattle.sexp_reader.specs.declared.fault.ReadFault.TheVariants.{NumberTooWide, BadToken}
use Rattle.sexp_reader.specs.Atoms.{is_integer, is_empty, is_number_like, is_increment, is_nil, is_name, ends_name, has_good_rest, has_good_colons, is_bad, atom}
use Rattle.sexp_reader.specs.Tokens as t
use Rattle.sexp_reader.specs.Tokens.{uppercase, has_colon, spoils, max_characters, IsNil, IsInteger, IsNoInteger, HasGoodColons, IsBad}
use Rattle.sexp_reader.proofs.BoolLemmas.{decide, false-true, not-false, not-true, or-parts, or-left, or-right, or-false, and-both}
use Rattle.sexp_reader.proofs.IntegerLemmas.{fits-negative, fits-positive, negative-fits, positive-fits}
use Rattle.sexp_reader.proofs.TokenLemmas.{number, parts, integer_in, integer_out, integer-true, integer-found, integer-good, no_integer, nil-is, is-nil, nil-clean, number-like, is_like, no_increment, increment-plus, increment-minus}

-- ---- colons

name-some : (part : List ℕ) → is_name part ≡ true → 0 < length part
name-some [] h = absurd (cc)
name-some (c ∷ cs) h = omega arith

name-plain : (part : List ℕ) → is_name part ≡ true → has_colon part ≡ false
name-plain part h = let p = and_parts (not (is_empty part)) (not (has_colon part)) h in not-true (has_colon part) p.1

is_name-of : (part : List ℕ) → 0 < length part → has_colon part ≡ false → is_name part ≡ true
is_name-of [] h e = absurd (omega arith)
is_name-of (c ∷ cs) h e = rw e refl

no_colon-append : (a b : List ℕ) → has_colon a ≡ false → has_colon b ≡ false → has_colon (a ++ b) ≡ false
no_colon-append [] b h g = g
no_colon-append (c ∷ cs) b h g = let p = or-false (c == 58) (has_colon cs) h in rw (p.0, no_colon-append cs b p.1 g) refl

ends-found : (home more : List ℕ) → 0 < length home → has_colon home ≡ false → ends_name more ≡ true → HasGoodColons (home ++ 58 ∷ more)
ends-found home [] some plain h = absurd (cc)
ends-found home (d ∷ name) some plain h = elim (decide (d == 58)) [
  | inl e ↦ let is : is_name name ≡ true = rw e at h in
      subst (λ x. HasGoodColons (home ++ 58 ∷ x ∷ name)) (sym (eqb-true d 58 e)) (t.two home name some plain (name-some name is) (name-plain name is))
  | inr e ↦ let is : is_name (d ∷ name) ≡ true = subst (λ b. (if b then is_name name else is_name (d ∷ name)) ≡ true) e h in t.one home (d ∷ name) some plain (name-some (d ∷ name) is) (name-plain (d ∷ name) is)
]

longer : (home : List ℕ) (c : ℕ) → 0 < length (home ++ c ∷ [])
longer [] c = omega arith
longer (d ∷ ds) c = omega arith

rest-found : (home cs : List ℕ) → 0 < length home → has_colon home ≡ false → has_good_rest cs ≡ true → HasGoodColons (home ++ cs)
rest-found home [] some plain h = t.none (home ++ []) (no_colon-append home [] plain refl)
rest-found home (c ∷ more) some plain h = elim (decide (c == 58)) [
  | inl e ↦ subst (λ x. HasGoodColons (home ++ x ∷ more)) (sym (eqb-true c 58 e)) (ends-found home more some plain (rw e at h))
  | inr e ↦ subst HasGoodColons (append_assoc home (c ∷ []) more)
      (rest-found (home ++ c ∷ []) more (longer home c) (no_colon-append home (c ∷ []) plain (rw e refl)) (rw e at h))
]

leads-found : (name : List ℕ) → is_name name ≡ true → HasGoodColons (58 ∷ name)
leads-found name h = t.leading name (name-plain name h)

pub colons-found : (token : List ℕ) → has_good_colons token ≡ true → HasGoodColons token
unfolding has_good_colons
colons-found [] h = t.none [] refl
colons-found (c ∷ cs) h = elim (decide (c == 58)) [
  | inl e ↦ subst (λ x. HasGoodColons (x ∷ cs)) (sym (eqb-true c 58 e)) (leads-found cs (rw e at h))
  | inr e ↦ rest-found (c ∷ []) cs (omega arith) (rw e refl) (rw e at h)
]

rest-none : (cs : List ℕ) → has_colon cs ≡ false → has_good_rest cs ≡ true
rest-none [] h = refl
rest-none (c ∷ cs) h = let p = or-false (c == 58) (has_colon cs) h in rw p.0 (rest-none cs p.1)

ends-one : (name : List ℕ) → 0 < length name → has_colon name ≡ false → ends_name name ≡ true
ends-one [] some h = absurd (omega arith)
ends-one (d ∷ ds) some h = let p = or-false (d == 58) (has_colon ds) h in subst (λ b. (if b then is_name ds else is_name (d ∷ ds)) ≡ true) (sym p.0) (is_name-of (d ∷ ds) some h)

rest-ends : (cs more : List ℕ) → has_colon cs ≡ false → ends_name more ≡ true → has_good_rest (cs ++ 58 ∷ more) ≡ true
rest-ends [] more h e = e
rest-ends (c ∷ cs) more h e = let p = or-false (c == 58) (has_colon cs) h in rw p.0 (rest-ends cs more p.1 e)

none-good : (token : List ℕ) → has_colon token ≡ false → has_good_colons token ≡ true
unfolding has_good_colons
none-good [] h = refl
none-good (c ∷ cs) h = let p = or-false (c == 58) (has_colon cs) h in rw p.0 (rest-none cs p.1)

leading-good : (name : List ℕ) → has_colon name ≡ false → ¬ (58 ∷ name ≡ 58 ∷ []) → has_good_colons (58 ∷ name) ≡ true
unfolding has_good_colons
leading-good [] h n = absurd (n refl)
leading-good (c ∷ cs) h n = is_name-of (c ∷ cs) (omega arith) h

between-good : (home more : List ℕ) → 0 < length home → has_colon home ≡ false → ends_name more ≡ true → has_good_colons (home ++ 58 ∷ more) ≡ true
unfolding has_good_colons
between-good [] more some h e = absurd (omega arith)
between-good (c ∷ cs) more some h e = let p = or-false (c == 58) (has_colon cs) h in rw p.0 (rest-ends cs more p.1 e)

pub good-colons : {token : List ℕ} → HasGoodColons token → ¬ (token ≡ 58 ∷ []) → has_good_colons token ≡ true
good-colons (t.none token h) n = none-good token h
good-colons (t.leading name h) n = leading-good name h n
good-colons (t.one home name some plain more h) n = between-good home name some plain (ends-one name more h)
good-colons (t.two home name some plain more h) n = between-good home (58 ∷ name) some plain (is_name-of name more h)

-- ---- bad tokens

-- it begins with `#`
abbrev pub begins_hash : List ℕ → Bool
begins_hash [] = false
begins_hash (c ∷ cs) = c == 35

pub hash-bad : (token : List ℕ) → begins_hash token ≡ true → IsBad token
hash-bad [] h = absurd (cc)
hash-bad (c ∷ cs) h = subst (λ d. IsBad (d ∷ cs)) (sym (eqb-true c 35 h)) (t.begins_with_hash cs)

no_colons : has_good_colons [] ≡ true
unfolding has_good_colons
no_colons = refl

two_not_one : (c d : ℕ) (ds : List ℕ) → ¬ (c ∷ d ∷ ds ≡ 58 ∷ [])
two_not_one c d ds e = absurd (cc)

colons-bad : (token : List ℕ) → has_good_colons token ≡ false → IsBad token
colons-bad [] h = false-true (has_good_colons []) h no_colons
colons-bad (c ∷ []) h = elim (decide (c == 58)) [
  | inl e ↦ subst (λ d. IsBad (d ∷ [])) (sym (eqb-true c 58 e)) t.is_colon
  | inr e ↦ false-true (has_good_colons (c ∷ [])) h (none-good (c ∷ []) (rw e refl))
]
colons-bad (c ∷ d ∷ ds) h = t.has_bad_colons (c ∷ d ∷ ds) (λ good. false-true (has_good_colons (c ∷ d ∷ ds)) h (good-colons good (two_not_one c d ds)))

pub bad-found : (token : List ℕ) → is_integer token ≡ false → is_bad token ≡ true → IsBad token
unfolding is_bad
bad-found token never h = elim (or-parts (list_any spoils token || (is_number_like token && not (is_increment token))) (not (has_good_colons token)) h) [
  | inl e ↦ elim (or-parts (list_any spoils token) (is_number_like token && not (is_increment token)) e) [
    | inl s ↦ t.is_spoiled token s
    | inr n ↦ let p = and_parts (is_number_like token) (not (is_increment token)) n in
        let other = not-true (is_increment token) p.1 in
        t.is_no_number token (number-like token p.0) (no_integer token never) (increment-plus token other) (increment-minus token other)
  ]
  | inr e ↦ colons-bad token (not-true (has_good_colons token) e)
]

spoiled-bad : (token : List ℕ) → list_any spoils token ≡ true → is_bad token ≡ true
unfolding is_bad
spoiled-bad token h = or-left _ _ (or-left _ _ h)

number-bad : (token : List ℕ) → is_number_like token ≡ true → is_increment token ≡ false → is_bad token ≡ true
unfolding is_bad
number-bad token h e = or-left _ _ (or-right (list_any spoils token) _ (and-both _ _ h (not-false (is_increment token) e)))

colons-is_bad : (token : List ℕ) → has_good_colons token ≡ false → is_bad token ≡ true
unfolding is_bad
colons-is_bad token h = or-right _ _ (not-false (has_good_colons token) h)

colon-alone : has_good_colons (58 ∷ []) ≡ false
unfolding has_good_colons
colon-alone = refl

pub bad-true : {token : List ℕ} → IsBad token → length token ≤ max_characters → begins_hash token ≡ false → is_bad token ≡ true
bad-true (t.begins_with_hash others) few never = absurd (cc)
bad-true (t.is_spoiled token h) few never = spoiled-bad token h
bad-true (t.is_too_long token long) few never = absurd (omega arith)
bad-true (t.is_no_number token like none a b) few never = number-bad token (is_like like) (no_increment token a b)
bad-true (t.has_bad_colons token bad) few never = elim (decide (has_good_colons token)) [
  | inl e ↦ absurd (bad (colons-found token e))
  | inr e ↦ colons-is_bad token e
]
bad-true t.is_colon few never = colons-is_bad (58 ∷ []) colon-alone

-- ---- the form

pub not-integer : (token : List ℕ) → IsNoInteger token → is_integer token ≡ false
not-integer token never = elim (decide (is_integer token)) [ inl e ↦ let found = integer-found token e in absurd (never found.0 found.1) | inr e ↦ e ]

not-nil : (token : List ℕ) → ¬ IsNil token → is_nil token ≡ false
not-nil token never = elim (decide (is_nil token)) [ inl e ↦ absurd (never (nil-is token e)) | inr e ↦ e ]

pub atom-integer : {token : List ℕ} {z : ℤ} → IsInteger token z → FitsSigned w64 z → atom token ≡ Ok (form.Int z)
unfolding atom
atom-integer {token} {z} is fits =
    let p = parts is in
    let in_ = integer_in token p.digits p.minus p.signed (subst (FitsSigned w64) p.is fits) in
    rw (integer-true token z is) (in_ ∙ ap (λ y. Ok (form.Int y)) (sym p.is))

pub atom-wide : {token : List ℕ} {z : ℤ} → IsInteger token z → ¬ FitsSigned w64 z → atom token ≡ Err NumberTooWide
unfolding atom
atom-wide {token} {z} is wide =
    let p = parts is in
    rw (integer-true token z is) (integer_out token p.digits p.minus p.signed (λ fits. wide (subst (FitsSigned w64) (sym p.is) fits)))

pub atom-nil : (token : List ℕ) → IsNil token → atom token ≡ Ok (form.List [])
unfolding atom
atom-nil token h = let is = is-nil token h in rw ((nil-clean token is).0, is) refl

pub atom-symbol : (token : List ℕ) → ¬ IsBad token → IsNoInteger token → ¬ IsNil token → atom token ≡ Ok (form.Sym (encode_utf8_all (uppercase token)))
unfolding atom
atom-symbol token good never other =
    let none = not-integer token never in
    let fine : is_bad token ≡ false = elim (decide (is_bad token)) [ inl e ↦ absurd (good (bad-found token none e)) | inr e ↦ e ] in
    rw (none, not-nil token other, fine) refl

pub atom-bad : {token : List ℕ} → IsBad token → length token ≤ max_characters → begins_hash token ≡ false → atom token ≡ Err BadToken
unfolding atom
atom-bad {token} bad few never =
    let is = bad-true bad few never in
    let none : is_integer token ≡ false = elim (decide (is_integer token)) [ inl e ↦ let found = integer-found token e in absurd (integer-good bad found.0 found.1 few) | inr e ↦ e ] in
    let other : is_nil token ≡ false = elim (decide (is_nil token)) [ inl e ↦ false-true (is_bad token) (nil-clean token e).1 is | inr e ↦ e ] in
    rw (none, other, is) refl

-- ---- each token is of one kind

pub data Kind (token : List ℕ) : Type 0 where
  integer : (z : ℤ) → length token ≤ max_characters → IsInteger token z → FitsSigned w64 z → Kind token
  wide : (z : ℤ) → length token ≤ max_characters → IsInteger token z → ¬ FitsSigned w64 z → Kind token
  nil : IsNil token → Kind token
  symbol : ¬ IsBad token → IsNoInteger token → ¬ IsNil token → Kind token
  bad : IsBad token → Kind token

fits-or-not : (minus : Bool) (m : ℕ) → FitsSigned w64 (number minus m) ⊎ (¬ FitsSigned w64 (number minus m))
fits-or-not true m = elim (decide (nat_le m (2 ^ 63))) [
  | inl e ↦ inl (fits-negative m (leb-true _ _ e))
  | inr e ↦ inr (λ fits. false-true (nat_le m (2 ^ 63)) e (le-leb m (2 ^ 63) (negative-fits m fits)))
]
fits-or-not false m = elim (decide (nat_lt m (2 ^ 63))) [
  | inl e ↦ inl (fits-positive m (ltb-true _ _ e))
  | inr e ↦ inr (λ fits. false-true (nat_lt m (2 ^ 63)) e (lt-ltb m (2 ^ 63) (positive-fits m fits)))
]

fits-decided : {token : List ℕ} {z : ℤ} → IsInteger token z → FitsSigned w64 z ⊎ (¬ FitsSigned w64 z)
fits-decided is = let p = parts is in elim (fits-or-not p.minus (digits_value 10 p.digits)) [
  | inl f ↦ inl (subst (FitsSigned w64) (sym p.is) f)
  | inr f ↦ inr (λ g. f (subst (FitsSigned w64) p.is g))
]

integer-kind : (token : List ℕ) (z : ℤ) → length token ≤ max_characters → IsInteger token z → Kind token
integer-kind token z few is = elim (fits-decided is) [ inl f ↦ integer z few is f | inr f ↦ wide z few is f ]

pub kind-of : (token : List ℕ) → Kind token
kind-of token = elim (decide (begins_hash token)) [
  | inl hash ↦ bad (hash-bad token hash)
  | inr plain ↦ elim (decide (nat_le (length token) max_characters)) [
    | inr long ↦ bad (t.is_too_long token (leb-false _ _ long))
    | inl few ↦ elim (decide (is_integer token)) [
      | inl e ↦ let found = integer-found token e in integer-kind token found.0 (leb-true _ _ few) found.1
      | inr none ↦ elim (decide (is_nil token)) [
        | inl e ↦ nil (nil-is token e)
        | inr other ↦ elim (decide (is_bad token)) [
          | inl e ↦ bad (bad-found token none e)
          | inr e ↦ symbol (λ b. false-true (is_bad token) e (bad-true b (leb-true _ _ few) plain)) (no_integer token none) (λ n. false-true (is_nil token) other (is-nil token n))
        ]
      ]
    ]
  ]
]
