use Rattle.std.proofs.Common.{◌≡◌, length}
use Rattle.lisp_numbers.specs.Range.{from_left, result_of}
use Rattle.lisp_numbers.proofs.many.from_left.Given as goal

-- the numbers left lead from the result so far to the result of all
abbrev pub invariant-loop-rest : goal.invariant-loop-rest
invariant-loop-rest l = from_left (result_of l.operation) l.so_far l.rest ≡ from_left (result_of l.fn.operation) l.fn.start l.fn.numbers

abbrev pub decreases-loop-rest : goal.decreases-loop-rest
decreases-loop-rest l = length l.rest
