use Rattle.std.proofs.Common.{◌≡◌, length}
use Rattle.lisp_syntax.specs.Parts.{leading}
use Rattle.lisp_syntax.proofs.Loops.{led_behind}
use Rattle.lisp_syntax.proofs.parameters.leading.Given as goal

abbrev pub invariant-loop-rest : goal.invariant-loop-rest
invariant-loop-rest l = leading l.fn.items ≡ led_behind l.names (leading l.rest)

abbrev pub decreases-loop-rest : goal.decreases-loop-rest
decreases-loop-rest l = length l.rest
