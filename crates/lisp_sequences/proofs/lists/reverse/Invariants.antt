use Rattle.std.proofs.Common.{◌≡◌, ◌++◌, reverse, length}
use Rattle.lisp_sequences.proofs.lists.reverse.Given as goal

-- what is added, and what is still to come, is the whole
abbrev pub invariant-loop-left : goal.invariant-loop-left
invariant-loop-left l = l.out ++ reverse l.left ≡ reverse l.fn.items

abbrev pub decreases-loop-left : goal.decreases-loop-left
decreases-loop-left l = length l.left
