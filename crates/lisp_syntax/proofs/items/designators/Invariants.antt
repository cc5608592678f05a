use Rattle.std.proofs.Common.{◌≡◌, length}
use Rattle.lisp_syntax.specs.Parts.{each_of, designator_of}
use Rattle.lisp_syntax.proofs.Loops.{behind}
use Rattle.lisp_syntax.proofs.items.designators.Given as goal

abbrev pub invariant-loop-rest : goal.invariant-loop-rest
invariant-loop-rest l = each_of designator_of l.fn.items ≡ behind l.names (each_of designator_of l.rest)

abbrev pub decreases-loop-rest : goal.decreases-loop-rest
decreases-loop-rest l = length l.rest
