-- The functions on strings, by their entries in chapters 16 and 17 of the HyperSpec. A string is its characters, in UTF-8.
use Rattle.std.specs.Prelude.{ℕ, ◌==◌, ◌&&◌, nat_lt, if◌then◌else◌, Bool, List, [], map, length, encode_utf8, encode_utf8_all}
use Rattle.std.specs.Char.{to_ascii_lowercase, to_ascii_uppercase}
use Rattle.std.specs.Str.{bytes_eq, chars}
use Rattle.lisp_sequences.specs.Lists.{subseq}

-- how many characters it has (function LENGTH)
abbrev pub string_length : List ℕ → ℕ
string_length text = length (chars text)

-- the characters from one place to before another (function SUBSEQ)
abbrev pub substring : ℕ → ℕ → List ℕ → List ℕ
substring from to text = encode_utf8_all (subseq from to (chars text))

-- a character stands in a part that begins in so many characters and ends in so many
abbrev pub is_within : ℕ → ℕ → Bool
is_within before until = before == 0 && nat_lt 0 until

-- a character, where it is kept
abbrev pub kept : Bool → ℕ → List ℕ
kept keeps c = if keeps then encode_utf8 c else []

-- the letters a to z in upper case, every other octet as it is (function STRING-UPCASE)
abbrev pub string_upcase : List ℕ → List ℕ
string_upcase text = map to_ascii_uppercase text

-- the letters A to Z in lower case, every other octet as it is (function STRING-DOWNCASE)
abbrev pub string_downcase : List ℕ → List ℕ
string_downcase text = map to_ascii_lowercase text

-- whether two strings have the same characters in the same order (function STRING=)
abbrev pub string_equal : List ℕ → List ℕ → Bool
string_equal a b = bytes_eq a b
