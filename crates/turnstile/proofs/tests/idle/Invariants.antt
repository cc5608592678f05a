use Rattle.std.proofs.Common.{◌≡◌, false}
use Rattle.turnstile.proofs.tests.idle.Given as goal

abbrev pub invariant-loop : goal.invariant-loop
invariant-loop g l =
    (goal.iterator-loop g).can_next l.iterator' × (goal.iterator-loop g).is_finite l.iterator' × (l.seat.hall ≡ l.hall) × (l.seat.has_turn ≡ false)
