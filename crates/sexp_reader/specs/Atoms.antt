-- The tests that the code makes on a token, and the form that it gives. That they are the rules of `Tokens` is proved.
use Rattle.std.specs.Prelude.{◌==◌, ◌||◌, ◌&&◌, not, ℕ, ◌^◌, Bool, true, false, if◌then◌else◌, nat_lt, nat_le, List, [], ◌∷◌, slice_index, encode_utf8_all, Result, Ok, Err, pos, neg_ℤ}
use Rattle.std.specs.List.{list_any, list_all}
use Rattle.std.specs.Char.{is_ascii_digit}
use Rattle.std.specs.Str.Parse.{digits_value, without_leading_sign, starts_with_minus}
use Rattle.lisp_data.specs.declared.sexp.Sexp.{Sexp}
use Rattle.lisp_data.specs.declared.sexp.Sexp.TheVariants as form
use Rattle.sexp_reader.specs.declared.fault.ReadFault.{ReadFault}
use Rattle.sexp_reader.specs.declared.fault.ReadFault.TheVariants.{BadToken, NumberTooWide}
use Rattle.sexp_reader.specs.Tokens.{spoils, begins_number, has_colon, uppercase}

-- no items
abbrev pub is_empty : {A : Type 0} → List A → Bool
is_empty [] = true
is_empty _ = false

-- without a leading sign
abbrev pub without_sign : List ℕ → List ℕ
without_sign token = without_leading_sign token

-- a sign or none, and digits
unfoldable pub is_integer : List ℕ → Bool
is_integer token = not (is_empty (without_sign token)) && list_all is_ascii_digit (without_sign token)

-- after a sign or none a digit or a dot
unfoldable pub is_number_like : List ℕ → Bool
is_number_like token = begins_number (slice_index (without_sign token) 0)

-- `1+` or `1-`
abbrev pub is_increment : List ℕ → Bool
is_increment (a ∷ b ∷ []) = a == 49 && (b == 43 || b == 45)
is_increment _ = false

-- `NIL` in any case
abbrev pub is_nil : List ℕ → Bool
is_nil (a ∷ b ∷ c ∷ []) = (a == 110 || a == 78) && ((b == 105 || b == 73) && (c == 108 || c == 76))
is_nil _ = false

-- a part that isn't empty and holds no colon
abbrev pub is_name : List ℕ → Bool
is_name part = not (is_empty part) && not (has_colon part)

-- after the first colon: a name, or another colon and a name
abbrev pub ends_name : List ℕ → Bool
ends_name [] = false
ends_name (c ∷ cs) = if c == 58 then is_name cs else is_name (c ∷ cs)

-- no colon, or what follows the first one
abbrev pub has_good_rest : List ℕ → Bool
has_good_rest [] = true
has_good_rest (c ∷ cs) = if c == 58 then ends_name cs else has_good_rest cs

-- the colons of a token
unfoldable pub has_good_colons : List ℕ → Bool
has_good_colons [] = true
has_good_colons (c ∷ cs) = if c == 58 then is_name cs else has_good_rest cs

-- a token that is no integer is bad
unfoldable pub is_bad : List ℕ → Bool
is_bad token = list_any spoils token || (is_number_like token && not (is_increment token)) || not (has_good_colons token)

-- the form of a sign and digits, in 64 bits
unfoldable pub integer_of : List ℕ → Result Sexp ReadFault
integer_of token =
    if starts_with_minus token
    then (if nat_le (digits_value 10 (without_sign token)) (2 ^ 63) then Ok (form.Int (neg_ℤ (pos (digits_value 10 (without_sign token))))) else Err NumberTooWide)
    else (if nat_lt (digits_value 10 (without_sign token)) (2 ^ 63) then Ok (form.Int (pos (digits_value 10 (without_sign token)))) else Err NumberTooWide)

-- the form of a token of at most as many characters as it may have
unfoldable pub atom : List ℕ → Result Sexp ReadFault
atom token =
    if is_integer token then integer_of token
    else if is_nil token then Ok (form.List [])
    else if is_bad token then Err BadToken
    else Ok (form.Sym (encode_utf8_all (uppercase token)))
