use Rattle.std.proofs.Common.{◌≡◌, ◌++◌, length}
use Rattle.server_rules.specs.Leaving.{aborts}
use Rattle.lisp_step.proofs.leaving.leave.Given as goal

-- what is written, and what is still to come, is the whole
abbrev pub invariant-frames : goal.invariant-frames
invariant-frames l = record {
  written : l.outs ++ aborts l.stack.context ≡ l.fn.outs ++ aborts l.fn.stack.context;
  serial : l.stack.serial ≡ l.fn.stack.serial;
}

abbrev pub decreases-frames : goal.decreases-frames
decreases-frames l = length l.stack.context
