use Rattle.std.proofs.Common.{◌≡◌, take}
use Rattle.std.specs.Prelude.{fold}
use Rattle.std.specs.Int.{int_min}
use Rattle.lisp_numbers.proofs.order.least.Given as goal

abbrev pub invariant-loop-number : goal.invariant-loop-number
invariant-loop-number l = l.found ≡ fold int_min l.first (take l.number-index l.others)
