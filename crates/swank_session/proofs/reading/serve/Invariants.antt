use Rattle.std.proofs.Common.{◌≡◌, ◌≤◌, ◌-◌, ℕ, List, length}
use Rattle.std.specs.Prelude.{Option}
use Rattle.inlet.specs.Pump.{input_limit}
use Rattle.swank_session.specs.Course.{Paid, Serves}
use Rattle.swank_session.proofs.reading.serve.Given as goal

abbrev pub invariant-loop-m : goal.invariant-loop-m
invariant-loop-m g l = record {
  serves : Serves (g.S.Source.left l.fn.input) (g.S.Source.left l.input) l.decoder l.counts.taken (g.S.Source.ended l.input) l.fn.core l.core;
  limits : l.core.limits ≡ l.limits;
  paid : (first : Option (List ℕ)) → Paid first (g.K.Sink.written l.fn.output) l.fn.core l.fn.counts.sent → Paid first (g.K.Sink.written l.output) l.core l.counts.sent;
  within : l.counts.taken ≤ input_limit;
  read_later : g.S.Source.faults l.fn.input ≤ g.S.Source.faults l.input;
  write_later : g.K.Sink.faults l.fn.output ≤ g.K.Sink.faults l.output;
}

abbrev pub decreases-loop-m : goal.decreases-loop-m
decreases-loop-m g l = l.core.limits.journal - length l.core.journal
