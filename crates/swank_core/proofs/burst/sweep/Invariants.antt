use Rattle.std.proofs.Common.{◌≡◌, ◌++◌, drop}
use Rattle.swank_core.specs.Bursts.{swept_from}
use Rattle.swank_core.proofs.burst.sweep.Given as goal

abbrev pub invariant-loop-m : goal.invariant-loop-m
invariant-loop-m l = l.outs ++ swept_from (drop l.m-index l.m-items) ≡ l.fn.outs ++ swept_from l.m-items
