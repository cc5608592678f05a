use Rattle.std.proofs.Common.{◌≡◌, length, map}
use Rattle.lisp_syntax.specs.Fits.{written}
use Rattle.lisp_syntax.specs.Table.{assignments_of}
use Rattle.lisp_syntax.proofs.Loops.{both_behind}
use Rattle.lisp_syntax.proofs.items.assignments.Given as goal

abbrev pub invariant-loop-rest : goal.invariant-loop-rest
invariant-loop-rest l = assignments_of l.fn.parts ≡ both_behind l.variables (map written l.forms) (assignments_of l.rest)

abbrev pub decreases-loop-rest : goal.decreases-loop-rest
decreases-loop-rest l = length l.rest
