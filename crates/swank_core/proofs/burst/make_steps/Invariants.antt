use Rattle.std.proofs.Common.{◌≡◌, ◌-◌, ◌≤◌, true}
use Rattle.server_rules.specs.Simple.{are_simple}
use Rattle.session_model.specs.World.{World}
use Rattle.swank_core.specs.Bursts.{Going, Shows}
use Rattle.swank_core.proofs.burst.make_steps.Given as goal

abbrev pub invariant-loop-steps : goal.invariant-loop-steps
invariant-loop-steps l = record {
  number : l.kept.machine.thread ≡ l.fn.kept.machine.thread;
  simple : are_simple l.kept.machine.stack.context ≡ true;
  within : l.steps ≤ l.max;
  going : (w : World) → Shows w l.fn.kept l.fn.image → Going w l.max l.steps l.fn.kept l.fn.outs l.kept l.image l.outs;
}

abbrev pub decreases-loop-steps : goal.decreases-loop-steps
decreases-loop-steps l = l.max - l.steps
