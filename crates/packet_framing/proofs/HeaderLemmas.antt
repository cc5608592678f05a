-- Headers: six digits and the number that they give.
use Rattle.std.proofs.Common.{◌≡◌, ℕ, zero, suc, ◌/◌, ◌%◌, ◌<◌, ◌≤◌, ◌==◌, Bool, true, ◌&&◌, inl, inr, List, [], ◌∷◌, length, map, slice_index, refl, sym, ap, ◌∙◌, arith}
use Rattle.std.specs.Prelude.{Some, None, Result, Ok, Err, IsOk}
use Rattle.std.specs.Char.{to_ascii_uppercase}
use Rattle.std.specs.List.{AllPass}
use Rattle.std.proofs.lemmas.Bool.{and_parts, cases_lt, eqb-true}
use Rattle.hex.specs.Hex.{IsBytes, encode_with, encode_lower, encode_upper, decode_sized, is_hex_digit, lower_digits, upper_digits}
use Rattle.hex.specs.declared.error.FromHexError.{FromHexError}
use Rattle.hex.proofs.HexLemmas.{length-encode_with, decode_of-encode_upper, decode_of-ok, decode_sized-ok, decode_sized-twice, IsOk-decode_sized}
use Rattle.packet_framing.specs.Packets.{number_of, number_if_read, header_value}
use Rattle.packet_framing.specs.Frames.{octets_of, header}

-- ---- upper case

abbrev same_at : ℕ → Bool
same_at d = to_ascii_uppercase (slice_index lower_digits d) == slice_index upper_digits d

abbrev same_below : ℕ → Bool
same_below zero = true
same_below (suc n) = same_at n && same_below n

at : (n d : ℕ) → same_below n ≡ true → d < n → to_ascii_uppercase (slice_index lower_digits d) ≡ slice_index upper_digits d
at zero d h lt = absurd (omega arith)
at (suc n) d h lt =
    let parts = and_parts (same_at n) (same_below n) h in
    elim (cases_lt d n) [
      | inl below ↦ at n d parts.1 below
      | inr top ↦ let e : d ≡ n = omega arith in rw e (eqb-true (to_ascii_uppercase (slice_index lower_digits n)) (slice_index upper_digits n) parts.0)
    ]

digit : (d : ℕ) → d < 16 → to_ascii_uppercase (slice_index lower_digits d) ≡ slice_index upper_digits d
digit d lt = at 16 d refl lt

-- three octets in lower case, raised to upper case
pub map-encode_lower : (a b c : ℕ) → a < 256 → b < 256 → c < 256 → map to_ascii_uppercase (encode_lower (a ∷ b ∷ c ∷ [])) ≡ encode_upper (a ∷ b ∷ c ∷ [])
unfolding encode_with
map-encode_lower a b c x y z =
    rw (digit (a / 16) (omega arith), digit (a % 16) (omega arith), digit (b / 16) (omega arith), digit (b % 16) (omega arith), digit (c / 16) (omega arith), digit (c % 16) (omega arith)) refl

-- ---- the number of a header that was written

octets-bytes : (n : ℕ) → n ≤ 16777215 → IsBytes (octets_of n)
octets-bytes n h zero = omega arith
octets-bytes n h (suc zero) = omega arith
octets-bytes n h (suc (suc zero)) = omega arith
octets-bytes n h (suc (suc (suc i))) = omega arith

pub length-header : (n : ℕ) → length (header n) ≡ 6
length-header n = length-encode_with upper_digits (octets_of n)

pub header_value-header : (n : ℕ) → n ≤ 16777215 → header_value (header n) ≡ Some n
unfolding header_value
header_value-header n h =
    ap number_if_read (decode_sized-twice (header n) 3 (length-header n) ∙ decode_of-encode_upper (octets_of n) (octets-bytes n h)) ∙ ap Some (omega arith)

-- ---- the digits of a header that was read

read_some : (r : Result (List ℕ) FromHexError) (n : ℕ) → number_if_read r ≡ Some n → (octets : List ℕ) × (r ≡ Ok octets) × (number_of octets ≡ n)
read_some (Ok octets) n e = (octets, refl, cc)
read_some (Err _) n e = absurd (cc)

read_none : (r : Result (List ℕ) FromHexError) → number_if_read r ≡ None → IsOk r → ⊥
read_none (Ok octets) e ok = cc e
read_none (Err _) e ok = cc ok

-- what a header with a value is
pub record Header (digits : List ℕ) (n : ℕ) : Type 0 where
  pub six : length digits ≡ 6
  pub digits_all : AllPass is_hex_digit digits
  pub small : n ≤ 16777215

ok_again : (r : Result (List ℕ) FromHexError) (octets : List ℕ) → r ≡ Ok octets → IsOk r
ok_again r octets e = rw e refl

pub header-of_some : (digits : List ℕ) (n : ℕ) → header_value digits ≡ Some n → Header digits n
unfolding header_value
header-of_some digits n e =
    let r = read_some (decode_sized digits 3) n e in
    let six = decode_sized-ok digits 3 r.0 r.1 in
    let ok = decode_of-ok digits r.0 (sym (decode_sized-twice digits 3 six) ∙ r.1) in
    let bytes : IsBytes r.0 = ok.3 in
    let a = bytes 0 in
    let b = bytes 1 in
    let c = bytes 2 in
    let sum = r.2 in
    record { six = six; digits_all = ok.1; small = omega arith }

-- six octets without a value are not all digits
pub not_digits-of_none : (digits : List ℕ) → length digits ≡ 6 → header_value digits ≡ None → ¬ AllPass is_hex_digit digits
unfolding header_value
not_digits-of_none digits six none all = read_none (decode_sized digits 3) none ((IsOk-decode_sized digits 3).1 (six, all))
