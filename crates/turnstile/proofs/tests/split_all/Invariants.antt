use Rattle.std.proofs.Common.{◌≡◌, All, false}
use Rattle.turnstile.proofs.tests.split_all.Given as goal

abbrev pub invariant-loop : goal.invariant-loop
invariant-loop g l = (l.first.hall ≡ l.hall) × (l.first.has_turn ≡ false) × All (λ seat. (seat.hall ≡ l.hall) × (seat.has_turn ≡ false)) l.seats.items
