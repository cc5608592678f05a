use Rattle.std.proofs.Common.{◌≡◌, ◌-◌, ◌≤◌, ◌⊎◌, false}
use Rattle.inlet.specs.Pump.{input_limit}
use Rattle.inlet.proofs.PumpLemmas.{Going}
use Rattle.inlet.proofs.pumping.read_on.Given as goal

abbrev pub invariant-loop-taken : goal.invariant-loop-taken
invariant-loop-taken g l = record {
  going : Going (g.S.Source.left l.fn.source) (g.S.Source.left l.source) l.fn.decoder l.decoder l.fn.taken l.taken;
  later : g.S.Source.faults l.fn.source ≤ g.S.Source.faults l.source;
  within : l.taken ≤ input_limit;
  open' : g.S.Source.ended l.fn.source ≡ false → g.S.Source.ended l.source ≡ false;
  met : (l.taken ≡ l.fn.taken) ⊎ (g.S.Source.ended l.source ≡ false);
  full : l.fn.taken ≡ input_limit → l.source ≡ l.fn.source;
}

abbrev pub decreases-loop-taken : goal.decreases-loop-taken
decreases-loop-taken g l = input_limit - l.taken
