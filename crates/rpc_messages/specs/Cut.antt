-- Texts that are cut where they are shown.
use Rattle.std.specs.Prelude.{ℕ, nat_lt, if◌then◌else◌, List, ◌++◌, length, take, codes, encode_utf8_all}
use Rattle.std.specs.Str.{chars}

-- how many characters of a text are shown
abbrev pub max_shown : ℕ
max_shown = 1000

-- the text, or its first 1,000 characters and three dots where it has more
abbrev pub cut : List ℕ → List ℕ
cut text = if nat_lt max_shown (length (chars text)) then encode_utf8_all (take max_shown (chars text)) ++ codes "..." else text
