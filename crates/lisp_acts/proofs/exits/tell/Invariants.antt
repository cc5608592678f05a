use Rattle.std.proofs.Common.{◌≡◌, ◌++◌, length}
use Rattle.lisp_control.specs.Leaving.{all_labels}
use Rattle.term_model.specs.Label.{messages_in}
use Rattle.lisp_acts.proofs.exits.tell.Given as goal

-- what was written and what is still to be told are the whole
abbrev pub invariant-passed : goal.invariant-passed
invariant-passed l = l.outs ++ messages_in (all_labels l.thread l.left) ≡ l.initial.outs ++ messages_in (all_labels l.thread l.fn.passed)

abbrev pub decreases-passed : goal.decreases-passed
decreases-passed l = length l.left
