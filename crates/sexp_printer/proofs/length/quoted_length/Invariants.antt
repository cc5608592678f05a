use Rattle.std.proofs.Common.{◌≡◌, ◌+◌, ◌-◌, ◌^◌, ◌≤◌, chars, IsUtf8, flat_map, length}
use Rattle.std.specs.Prelude.{encode_utf8_all}
use Rattle.std.specs.Str.Iter.{chars_rest}
use Rattle.lisp_data.specs.Sexp.{capped}
use Rattle.sexp_printer.specs.Printed.{escaped, quoted}
use Rattle.sexp_printer.proofs.length.quoted_length.Given as goal

-- the total and what is still to come are the whole, as far as 64 bits hold it
abbrev pub invariant-loop-c : goal.invariant-loop-c
invariant-loop-c l = record {
  utf8 : IsUtf8 (chars_rest l.rest);
  whole : capped (l.total + length (encode_utf8_all (flat_map escaped (chars (chars_rest l.rest))))) ≡ capped (length (quoted l.fn.text));
  fits : l.total ≤ 2 ^ 64 - 1;
}
