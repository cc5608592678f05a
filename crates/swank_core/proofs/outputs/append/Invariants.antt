use Rattle.std.proofs.Common.{◌≡◌, ◌++◌, ◌≤◌, length, take}
use Rattle.swank_core.proofs.outputs.append.Given as goal

abbrev pub invariant-loop-output : goal.invariant-loop-output
invariant-loop-output l = (l.rest ++ l.turned ≡ l.fn.more) × (l.outs ≡ l.initial.outs)

abbrev pub decreases-loop-output : goal.decreases-loop-output
decreases-loop-output l = length l.rest

abbrev pub invariant-loop-output-2 : goal.invariant-loop-output-2
invariant-loop-output-2 l =
    (l.outs ++ l.turned ≡ l.fn.outs ++ l.fn.more) × (take (length l.fn.outs) l.outs ≡ l.fn.outs) × (length l.fn.outs ≤ length l.outs)

abbrev pub decreases-loop-output-2 : goal.decreases-loop-output-2
decreases-loop-output-2 l = length l.turned
