use Rattle.std.proofs.Common.{◌≡◌, ◌++◌, ◌≤◌, ◌-◌, length, take}
use Rattle.outside_traits.specs.Told.{BothTold}
use Rattle.outside_traits.proofs.sink.write_all.Given as goal

abbrev pub invariant-loop-taken : goal.invariant-loop-taken
invariant-loop-taken g l = record {
  within : l.taken ≤ length l.piece;
  later : g.K.Sink.faults l.fn.sink ≤ g.K.Sink.faults l.sink;
  bytes : BothTold (g.K.Sink.written l.fn.sink) (g.K.Sink.written l.sink) (λ old new. new ≡ old ++ take l.taken l.piece);
}

abbrev pub decreases-loop-taken : goal.decreases-loop-taken
decreases-loop-taken g l = length l.piece - l.taken
