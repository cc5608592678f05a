use Rattle.std.proofs.Common.{◌≡◌, false}
use Rattle.turnstile.proofs.tests.turn.Given as goal

abbrev pub invariant-loop : goal.invariant-loop
invariant-loop g l = (l.seat.hall ≡ l.hall) × (l.seat.has_turn ≡ false)
