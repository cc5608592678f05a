use Rattle.std.proofs.Common.{◌≡◌, ◌++◌, chars, IsUtf8, map}
use Rattle.std.specs.Prelude.{encode_utf8_all}
use Rattle.std.specs.Str.Iter.{chars_rest}
use Rattle.sexp_printer.specs.Case.{change_of}
use Rattle.sexp_printer.proofs.form.write_symbol.Given as goal

abbrev pub invariant-loop-c : goal.invariant-loop-c
invariant-loop-c l = IsUtf8 (chars_rest l.rest) × (l.out ++ encode_utf8_all (map (change_of l.case) (chars (chars_rest l.rest))) ≡ l.fn.out ++ encode_utf8_all (map (change_of l.case) (chars l.fn.token)))
