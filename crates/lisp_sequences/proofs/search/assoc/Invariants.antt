use Rattle.std.proofs.Common.{◌≡◌, length}
use Rattle.lisp_sequences.specs.Lists.{assoc}
use Rattle.lisp_sequences.proofs.search.assoc.Given as goal

abbrev pub invariant-loop-left : goal.invariant-loop-left
invariant-loop-left l = assoc l.key l.left ≡ assoc l.key l.fn.items

abbrev pub decreases-loop-left : goal.decreases-loop-left
decreases-loop-left l = length l.left
