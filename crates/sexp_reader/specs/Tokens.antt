-- Tokens, as lists of characters: what ends one, which are bad, and which are integers. Section 2.3 of the HyperSpec, cut to
-- what the subset reads: no ratios, no floats, no escapes.
use Rattle.std.specs.Prelude.{◌≡◌, ◌==◌, ◌||◌, ℕ, ℤ, ◌<◌, Bool, true, false, List, [], ◌∷◌, ◌++◌, length, map, codes, pos, neg_ℤ}
use Rattle.std.specs.List.{list_any}
use Rattle.std.specs.Char.{is_ascii_digit, to_ascii_uppercase}
use Rattle.std.specs.Str.Parse.{IsNumeral, digits_value}

-- whitespace: space, tab, newline, carriage return and form feed (HyperSpec 2.1.4.7)
abbrev pub is_space : ℕ → Bool
is_space c = c == 32 || c == 9 || c == 10 || c == 13 || c == 12

-- what ends a token: whitespace, `(`, `)`, `"`, `;` and `'`
abbrev pub ends_token : ℕ → Bool
ends_token c = is_space c || c == 40 || c == 41 || c == 34 || c == 59 || c == 39

-- the most characters that a token may have
abbrev pub max_characters : ℕ
max_characters = 1000

-- a token as it is read: its ASCII letters in upper case (HyperSpec 2.2)
abbrev pub uppercase : List ℕ → List ℕ
uppercase token = map to_ascii_uppercase token

-- `NIL` in any case
abbrev pub IsNil : List ℕ → Type 0
IsNil token = uppercase token ≡ codes "NIL"

-- an optional sign and one or more digits, with their number (HyperSpec 2.3.2.1.1)
pub data IsInteger : List ℕ → ℤ → Type 0 where
  bare : (digits : List ℕ) → IsNumeral 10 digits → IsInteger digits (pos (digits_value 10 digits))
  plus : (digits : List ℕ) → IsNumeral 10 digits → IsInteger (43 ∷ digits) (pos (digits_value 10 digits))
  minus : (digits : List ℕ) → IsNumeral 10 digits → IsInteger (45 ∷ digits) (neg_ℤ (pos (digits_value 10 digits)))

-- it is no sign and digits
abbrev pub IsNoInteger : List ℕ → Type 0
IsNoInteger token = (z : ℤ) → ¬ IsInteger token z

-- a digit or a dot
abbrev pub begins_number : ℕ → Bool
begins_number c = is_ascii_digit c || c == 46

-- its first character after an optional sign is a digit or a dot, as that of a number (HyperSpec 2.3.1.1)
pub data IsNumberLike : List ℕ → Type 0 where
  bare : (c : ℕ) (others : List ℕ) → begins_number c ≡ true → IsNumberLike (c ∷ others)
  plus : (c : ℕ) (others : List ℕ) → begins_number c ≡ true → IsNumberLike (43 ∷ c ∷ others)
  minus : (c : ℕ) (others : List ℕ) → begins_number c ≡ true → IsNumberLike (45 ∷ c ∷ others)

-- it holds a colon
abbrev pub has_colon : List ℕ → Bool
has_colon token = list_any (λ c. c == 58) token

-- its colons, if it holds any, are a leading one, or one or two adjacent ones between two parts that aren't empty
-- (HyperSpec 2.3.5)
pub data HasGoodColons : List ℕ → Type 0 where
  none : (token : List ℕ) → has_colon token ≡ false → HasGoodColons token
  leading : (name : List ℕ) → has_colon name ≡ false → HasGoodColons (58 ∷ name)
  one : (home name : List ℕ) → 0 < length home → has_colon home ≡ false → 0 < length name → has_colon name ≡ false → HasGoodColons (home ++ 58 ∷ name)
  two : (home name : List ℕ) → 0 < length home → has_colon home ≡ false → 0 < length name → has_colon name ≡ false → HasGoodColons (home ++ 58 ∷ 58 ∷ name)

-- a backslash, a bar, a comma or a backquote
abbrev pub spoils : ℕ → Bool
spoils c = c == 92 || c == 124 || c == 44 || c == 96

-- a bad token: each way of being one. Every other token is good.
pub data IsBad : List ℕ → Type 0 where
  begins_with_hash : (others : List ℕ) → IsBad (35 ∷ others)
  is_spoiled : (token : List ℕ) → list_any spoils token ≡ true → IsBad token
  is_too_long : (token : List ℕ) → max_characters < length token → IsBad token
  is_no_number : (token : List ℕ) → IsNumberLike token → IsNoInteger token → ¬ (token ≡ codes "1+") → ¬ (token ≡ codes "1-") → IsBad token
  has_bad_colons : (token : List ℕ) → ¬ HasGoodColons token → IsBad token
  is_colon : IsBad (58 ∷ [])
