-- The forms of a text of ASCII are those that the reader reads, which computes.
use Rattle.std.proofs.Common.{◌≡◌, ◌∙◌, ap, ℕ, true, List, [], ◌∷◌, chars}
use Rattle.std.specs.Prelude.{Bool, Ok, nat_lt}
use Rattle.std.specs.List.{list_all}
use Rattle.std.specs.Str.{IsAscii}
use Rattle.std.proofs.lemmas.Bool.{ltb-true, and_parts}
use Rattle.std.proofs.lemmas.Str.{chars-IsAscii}
use Rattle.std.proofs.lemmas.Str.Ascii.{IsAscii-nil, IsAscii-cons}
use Rattle.sexp_reader.specs.Reading.{read_of}
use Rattle.sexp_reader.specs.declared.placed.Placed.{Placed}
use Rattle.sexp_reader.proofs.Exact.{exact-forms}
use Rattle.swank_rpc.specs.Texts.{forms_of}
use Rattle.swank_rpc.proofs.TextLemmas.{forms_of-spelled}

abbrev pub is_plain : List ℕ → Bool
is_plain text = list_all (λ c. nat_lt c 128) text

ascii : (text : List ℕ) → is_plain text ≡ true → IsAscii text
ascii [] h = IsAscii-nil
ascii (c ∷ cs) h = let p = and_parts (nat_lt c 128) (is_plain cs) h in IsAscii-cons c cs (ltb-true c 128 p.0) (ascii cs p.1)

pub forms-read : (text : List ℕ) (forms : List Placed) → is_plain text ≡ true → read_of true text ≡ Ok forms → forms_of text ≡ Ok forms
forms-read text forms h e = forms_of-spelled text forms ((exact-forms (chars text)).from_ok forms (ap (read_of true) (chars-IsAscii text (ascii text h)) ∙ e))

-- a text of ASCII is its characters
pub chars-plain : (text : List ℕ) → is_plain text ≡ true → chars text ≡ text
chars-plain text h = chars-IsAscii text (ascii text h)
