use Rattle.std.proofs.Common.{◌≡◌, false}
use Rattle.turns_bench.proofs.in_hall.take_turns.Given as goal

abbrev pub invariant-loop : goal.invariant-loop
invariant-loop g l = (l.seat.hall ≡ l.hall) × (l.seat.has_turn ≡ false)
