-- The forms of a text, and the texts that a value makes.
use Rattle.std.specs.Prelude.{ℕ, true, if◌then◌else◌, List, ◌++◌, codes, ◌⊎◌, Option, Some, None, Result, Ok, Err}
use Rattle.std.specs.Str.{chars}
use Rattle.std.proofs.Common.{inl, inr}
use Rattle.lisp_data.specs.declared.value.Value.{Value}
use Rattle.lisp_data.specs.declared.value.Value.TheVariants as value
use Rattle.lisp_errors.specs.Limits.{is_too_large}
use Rattle.sexp_printer.specs.UserText.{user_text}
use Rattle.sexp_reader.specs.Faults.{IsFaultAmong}
use Rattle.sexp_reader.specs.Grammar.{AreSpelled}
use Rattle.sexp_reader.specs.declared.fault.ReadFault.{ReadFault}
use Rattle.sexp_reader.specs.declared.placed.Placed.{Placed}
use Rattle.sexp_reader.proofs.Total.{all-or-fault}

-- ---- the forms of a text

-- what a text is: forms one after another, or what has a fault
abbrev pub Reading : List ℕ → Type 0
Reading text = ((forms : List Placed) × AreSpelled text forms) ⊎ ((fault : ReadFault) × IsFaultAmong text fault)

abbrev pub read_as : {text : List ℕ} → Reading text → Result (List Placed) ReadFault
read_as (inl found) = Ok found.0
read_as (inr broken) = Err broken.0

-- the forms that a text spells one after another, each with its place, or the fault that it has: each text has exactly one of the two
unfoldable pub forms_of : List ℕ → Result (List Placed) ReadFault
forms_of text = read_as (all-or-fault (chars text))

-- ---- the text of a value

-- what stands in place of a value where there were no forms
abbrev pub no_value : List ℕ
no_value = codes "; No value"

-- a value as user text with escape, between these two
abbrev pub value_text : List ℕ → List ℕ → Value → List ℕ → List ℕ
value_text before current v after = before ++ user_text current true v ++ after

-- a text that was made of a value, unless it is too large
abbrev pub within : List ℕ → Option (List ℕ)
within text = if is_too_large (value.Str text) then None else Some text
