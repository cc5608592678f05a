use Rattle.std.proofs.Common.{◌≡◌, ◌++◌, chars, IsUtf8, flat_map}
use Rattle.std.specs.Prelude.{encode_utf8_all}
use Rattle.std.specs.Str.Iter.{chars_rest}
use Rattle.sexp_printer.specs.Printed.{escaped}
use Rattle.sexp_printer.proofs.piece.write_escaped.Given as goal

abbrev pub invariant-loop-c : goal.invariant-loop-c
invariant-loop-c l = IsUtf8 (chars_rest l.rest) × (l.out ++ encode_utf8_all (flat_map escaped (chars (chars_rest l.rest))) ≡ l.fn.out ++ encode_utf8_all (flat_map escaped (chars l.fn.text)))
