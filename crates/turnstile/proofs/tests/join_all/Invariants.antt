use Rattle.std.proofs.Common.{◌≡◌, All, false}
use Rattle.turnstile.proofs.tests.join_all.Given as goal

abbrev pub invariant-loop-seat : goal.invariant-loop-seat
invariant-loop-seat g l = (l.first.hall ≡ l.hall) × (l.first.has_turn ≡ false) × All (λ seat. (seat.hall ≡ l.hall) × (seat.has_turn ≡ false)) l.seats.items

abbrev pub decreases-loop-seat : goal.decreases-loop-seat
decreases-loop-seat g l = goal.left-loop-seat g l
