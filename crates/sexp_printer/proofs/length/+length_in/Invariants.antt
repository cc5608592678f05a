use Rattle.std.proofs.Common.{◌≡◌, ◌+◌, ◌-◌, ◌^◌, ◌≤◌, drop, map, length}
use Rattle.lisp_data.specs.Sexp.{capped}
use Rattle.sexp_printer.specs.Printed.{others_of}
use Rattle.sexp_printer.specs.UserText.{user_text}
use Rattle.sexp_printer.proofs.length.+length_in.Given as goal

-- the total and the items still to come are the whole, as far as 64 bits hold it
abbrev pub invariant-loop-item : goal.invariant-loop-item
invariant-loop-item l = record {
  whole : capped (l.total + length (others_of (map (user_text l.current l.escape) (drop l.item-index l.others)))) ≡ capped (length (user_text l.current l.escape l.value));
  fits : l.total ≤ 2 ^ 64 - 1;
}
