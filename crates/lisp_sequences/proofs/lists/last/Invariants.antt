use Rattle.std.proofs.Common.{◌≡◌, length}
use Rattle.lisp_sequences.specs.Lists.{last}
use Rattle.lisp_sequences.proofs.lists.last.Given as goal

abbrev pub invariant-loop-left : goal.invariant-loop-left
invariant-loop-left l = last l.left ≡ last l.fn.items

abbrev pub decreases-loop-left : goal.decreases-loop-left
decreases-loop-left l = length l.left
