-- The text of a form: on the wire, and as it is shown. Chapter 22 of the HyperSpec (22.1.3.1 integers, 22.1.3.3 symbols,
-- 22.1.3.4 strings, 22.1.3.5 lists), with SLIME's `swank/rpc.lisp` for the lower case of the wire.
use Rattle.std.specs.Prelude.{◌==◌, ◌||◌, ℕ, if◌then◌else◌, List, [], ◌∷◌, ◌++◌, map, codes, encode_utf8_all}
use Rattle.std.specs.Char.{to_ascii_lowercase, to_ascii_uppercase}
use Rattle.std.specs.Fmt.{signed_decimal}
use Rattle.std.specs.List.{flat_map}
use Rattle.std.specs.Str.{chars}
use Rattle.lisp_data.specs.declared.sexp.Sexp.{Sexp}
use Rattle.lisp_data.specs.declared.sexp.Sexp.TheOpen.{Sexp-F}
use Rattle.lisp_data.specs.declared.sexp.Sexp.TheFolds.{fold-Sexp}

-- a character inside a string: after a backslash where it is a double quote or a backslash, else as it is
abbrev pub escaped : ℕ → List ℕ
escaped c = if c == 34 || c == 92 then 92 ∷ c ∷ [] else c ∷ []

-- a string in double quotes
abbrev pub quoted : List ℕ → List ℕ
quoted text = 34 ∷ encode_utf8_all (flat_map escaped (chars text)) ++ 34 ∷ []

-- items after a first one, each with a space before it
abbrev pub others_of : List (List ℕ) → List ℕ
others_of [] = []
others_of (item ∷ items) = 32 ∷ item ++ others_of items

-- a list's items in parentheses, with one space between them; NIL where it has none
abbrev pub in_parentheses : List ℕ → List (List ℕ) → List ℕ
in_parentheses nil [] = nil
in_parentheses nil (item ∷ items) = 40 ∷ item ++ others_of items ++ 41 ∷ []

-- a text with each character changed
abbrev pub changed : (ℕ → ℕ) → List ℕ → List ℕ
changed case text = encode_utf8_all (map case (chars text))

-- one level of a form, with its items' texts in their places; `case` is what happens to a symbol's characters
abbrev pub text_step : (ℕ → ℕ) → Sexp-F (List ℕ) → List ℕ
text_step case (Sexp-F.Int n) = signed_decimal n
text_step case (Sexp-F.Str text) = quoted text
text_step case (Sexp-F.Sym token) = changed case token
text_step case (Sexp-F.List items) = in_parentheses (changed case (codes "NIL")) items

-- the text of a form whose symbols' characters are so changed
abbrev pub text_of : (ℕ → ℕ) → Sexp → List ℕ
text_of case = fold-Sexp (List ℕ) (text_step case)

-- the wire text of a form: its symbols, and `nil`, with ASCII letters in lower case
abbrev pub printed : Sexp → List ℕ
printed = text_of to_ascii_lowercase

-- the same in upper case, and `NIL`
abbrev pub shown : Sexp → List ℕ
shown = text_of to_ascii_uppercase
