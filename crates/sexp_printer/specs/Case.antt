-- What each case does to a character.
use Rattle.std.specs.Prelude.{ℕ}
use Rattle.std.specs.Char.{to_ascii_lowercase, to_ascii_uppercase}
use Rattle.sexp_printer.specs.declared.form.Case.{Case}
use Rattle.sexp_printer.specs.declared.form.Case.TheVariants as in_case

-- ASCII letters in that case, every other character as it is
abbrev pub change_of : Case → ℕ → ℕ
change_of in_case.Lower = to_ascii_lowercase
change_of in_case.Upper = to_ascii_uppercase
