-- The length of a text, and texts of ASCII.
use Rattle.std.proofs.Common.{◌≡◌, ℕ, ◌<◌, ◌≤◌, List, [], ◌∷◌, ◌++◌, length, chars, IsUtf8, encode_utf8_all, refl, ap, ap₂, subst, ◌∙◌, arith}
use Rattle.std.specs.Char.{is_ascii_digit, to_ascii_uppercase}
use Rattle.std.specs.List.{list_all}
use Rattle.std.specs.Prelude.{true, encode_utf8}
use Rattle.std.proofs.lemmas.Bool.{and_parts, lt-ltb}
use Rattle.std.proofs.lemmas.Bool.Decides.{nat_tests}
use Rattle.std.proofs.lemmas.Str.{length-le-encodes, encodes-chars, encode_ascii}
use Rattle.sexp_reader.specs.Tokens.{uppercase}

pub length-chars : (bs : List ℕ) → IsUtf8 bs → length (chars bs) ≤ length bs
length-chars bs utf8 = subst (λ l. length (chars bs) ≤ length l) (encodes-chars bs utf8) (length-le-encodes (chars bs))

pub below_letters : (c : ℕ) → c < 97 → to_ascii_uppercase c ≡ c
below_letters c h = rw (lt-ltb c 97 h) refl

-- a digit or a sign is one octet, in either case
pub one_octet : (c : ℕ) → c < 97 → encode_utf8 (to_ascii_uppercase c) ≡ c ∷ []
one_octet c h = ap encode_utf8 (below_letters c h) ∙ encode_ascii c (omega arith)

pub digit_below : (c : ℕ) → is_ascii_digit c ≡ true → c < 58
digit_below c h = grind (arith, nat_tests)

pub digits_octets : (digits : List ℕ) → list_all is_ascii_digit digits ≡ true → encode_utf8_all (uppercase digits) ≡ digits
digits_octets [] h = refl
digits_octets (c ∷ cs) h =
    let p = and_parts (is_ascii_digit c) (list_all is_ascii_digit cs) h in
    let below : c < 58 = digit_below c p.0 in
    ap₂ (λ (a b : List ℕ). a ++ b) (one_octet c (omega arith)) (digits_octets cs p.1)
