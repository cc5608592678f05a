use Rattle.std.proofs.Common.{◌≡◌, length}
use Rattle.lisp_sequences.specs.Lists.{member}
use Rattle.lisp_sequences.proofs.search.member.Given as goal

abbrev pub invariant-loop-left : goal.invariant-loop-left
invariant-loop-left l = member l.item l.left ≡ member l.item l.fn.items

abbrev pub decreases-loop-left : goal.decreases-loop-left
decreases-loop-left l = length l.left
