-- A number as options take it: it is no flag, and the command's test of it is that of its range.
use Rattle.std.proofs.Common.{◌≡◌, ◌∙◌, ℕ, ◌<◌, ◌≤◌, ◌^◌, nat_lt, nat_le, ◌==◌, Bool, true, false, true≢false, ◌&&◌, List, [], ◌∷◌, length, drop, Option, Some, None, refl, sym, ap, arith}
use Rattle.std.specs.Prelude.{cond, if◌then◌else◌}
use Rattle.std.specs.Char.{digit_value, is_ascii_digit}
use Rattle.std.specs.Int.{IsInRange}
use Rattle.std.specs.List.{list_all}
use Rattle.std.specs.Prelude.{Result, Ok, Err}
use Rattle.std.specs.Str.Parse.{AllDigits, IsNumeral, ParsesUnsigned, digits_value, without_leading_plus}
use Rattle.std.proofs.lemmas.Bool.{leb-true, lt-ltb, ne_eqb}
use Rattle.std.proofs.lemmas.Str.{digit_value_digit}
use Rattle.clap.proofs.WalkLemmas.{both}
use Rattle.clap.specs.Matches.{ReadsOne}
use Rattle.clap.specs.ValueTests.{accepts, is_numeral}
use Rattle.clap.specs.declared.builder.value_parser.ValueParser.TheVariants.{Unsigned}
use Rattle.command_words.specs.Options.{IsReadable}
use Rattle.command_words.specs.Words.{NumberOption, is_number, number_in}
use Rattle.command_words.proofs.Reading.{IsPlainWord}

digits_of : (n : List ℕ) → is_number n ≡ true → list_all is_ascii_digit n ≡ true
digits_of n e = (both _ _ (both _ _ e).1).1

digit_range : (x : ℕ) → is_ascii_digit x ≡ true → IsInRange 48 57 x
digit_range x e = let p = both _ _ e in (leb-true 48 x p.0, leb-true x 57 p.1)

first_range : (x : ℕ) (ds : List ℕ) → is_number (x ∷ ds) ≡ true → IsInRange 48 57 x
first_range x ds e = digit_range x (both _ _ (digits_of (x ∷ ds) e)).0

pub plain : (n : List ℕ) → is_number n ≡ true → IsPlainWord n
plain [] e = absurd (true≢false (sym e))
plain (x ∷ ds) e =
    let range = first_range x ds e in
    let other : (x == 45) ≡ false = ne_eqb x 45 (λ is. omega (arith, range.0, is)) in
    record { no_flag = rw other refl; no_end = rw other refl }

no_plus : (n : List ℕ) → is_number n ≡ true → without_leading_plus n ≡ n
no_plus [] e = absurd (true≢false (sym e))
no_plus (x ∷ ds) e =
    let range = first_range x ds e in
    let other : (x == 43) ≡ false = ne_eqb x 43 (λ is. omega (arith, range.0, is)) in
    ap (λ (b : Bool). drop (cond b 1 0) (x ∷ ds)) other

all_values : (ds : List ℕ) → list_all is_ascii_digit ds ≡ true → list_all (λ d. nat_lt (digit_value d) 10) ds ≡ true
all_values [] e = refl
all_values (d ∷ ds) e =
    let p = both _ _ e in
    let range = digit_range d p.0 in
    rw (lt-ltb (digit_value d) 10 (omega (arith, range.1, digit_value_digit d range))) (all_values ds p.1)

numeral : (n : List ℕ) → is_number n ≡ true → is_numeral n ≡ true
numeral [] e = absurd (true≢false (sym e))
numeral (x ∷ ds) e = rw (lt-ltb 0 (length (x ∷ ds)) (omega arith)) (all_values (x ∷ ds) (digits_of (x ∷ ds) e))

-- whether the number that a word spells is in the option's range
abbrev pub in_range : NumberOption → List ℕ → Bool
in_range o n = nat_le o.least (digits_value 10 n) && nat_le (digits_value 10 n) o.greatest

-- the greatest number is one of 64 bits, so what is too large for those is out of range
within : (v l g : ℕ) → g < 2 ^ 64 → (nat_lt v (2 ^ 64) && (nat_le l v && nat_le v g)) ≡ (nat_le l v && nat_le v g)
within v l g fits = go (nat_le l v) (nat_le v g) refl
  where
    go : (a b : Bool) → nat_le v g ≡ b → (nat_lt v (2 ^ 64) && (a && b)) ≡ (a && b)
    go false b e = unlikely (nat_lt v (2 ^ 64)) where
      unlikely : (c : Bool) → (c && false) ≡ false
      unlikely true = refl
      unlikely false = refl
    go true false e = unlikely (nat_lt v (2 ^ 64)) where
      unlikely : (c : Bool) → (c && false) ≡ false
      unlikely true = refl
      unlikely false = refl
    go true true e =
        let low : v ≤ g = leb-true v g e in
        rw (lt-ltb v (2 ^ 64) (omega (arith, low, fits))) refl

pub accepts_is : (o : NumberOption) (n : List ℕ) → o.greatest < 2 ^ 64 → is_number n ≡ true → accepts false (Unsigned o.least o.greatest) n ≡ in_range o n
accepts_is o n fits e =
    ap (λ (t : List ℕ). is_numeral t && (nat_lt (digits_value 10 t) (2 ^ 64) && (nat_le o.least (digits_value 10 t) && nat_le (digits_value 10 t) o.greatest))) (no_plus n e)
    ∙ ap (λ (b : Bool). b && (nat_lt (digits_value 10 n) (2 ^ 64) && in_range o n)) (numeral n e)
    ∙ within (digits_value 10 n) o.least o.greatest fits

pub number_is : (o : NumberOption) (n : List ℕ) → is_number n ≡ true → number_in o n ≡ (if in_range o n then Some (digits_value 10 n) else None)
number_is o n e = ap (λ (b : Bool). if b && in_range o n then Some (digits_value 10 n) else None) e

pub small_in : (o : NumberOption) (n : List ℕ) → o.greatest < 2 ^ 64 → in_range o n ≡ true → digits_value 10 n < 2 ^ 64
small_in o n fits e =
    let low : digits_value 10 n ≤ o.greatest = leb-true (digits_value 10 n) o.greatest (both (nat_le o.least (digits_value 10 n)) _ e).1 in
    omega (arith, low, fits)

all_digits : (ds : List ℕ) → list_all is_ascii_digit ds ≡ true → AllDigits 10 ds
all_digits [] e = tt
all_digits (d ∷ ds) e =
    let p = both _ _ e in
    let range = digit_range d p.0 in
    (omega (arith, range.1, digit_value_digit d range), all_digits ds p.1)

is_numeral_of : (n : List ℕ) → is_number n ≡ true → IsNumeral 10 n
is_numeral_of [] e = absurd (true≢false (sym e))
is_numeral_of (x ∷ ds) e = (omega arith, all_digits (x ∷ ds) (digits_of (x ∷ ds) e))

-- a word that may be read as a number is
pub number_read : {E : Type 0} (G : List ℕ → Result ℕ E → Type 0) (n : List ℕ) (r : Option ℕ) → ReadsOne G n r
    → ((x : Result ℕ E) → G n x → ParsesUnsigned 64 10 n x) → IsReadable n → r ≡ Some (digits_value 10 n)
number_read G n (Some v) h only p = ap Some ((only (Ok v) h).1 ∙ ap (digits_value 10) (no_plus n p.digits))
number_read G n None h only p =
    let whole : IsNumeral 10 (without_leading_plus n) × (digits_value 10 (without_leading_plus n) < 2 ^ 64) = rw (no_plus n p.digits) (is_numeral_of n p.digits, p.small) in
    absurd (only (Err h.0) h.1 whole)

pub bounds : (o : NumberOption) (n : List ℕ) → in_range o n ≡ true → (o.least ≤ digits_value 10 n) × (digits_value 10 n ≤ o.greatest)
bounds o n e = let p = both (nat_le o.least (digits_value 10 n)) (nat_le (digits_value 10 n) o.greatest) e in (leb-true _ _ p.0, leb-true _ _ p.1)
