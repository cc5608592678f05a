use Rattle.std.proofs.Common.{◌≡◌, ◌+◌, All, false, length}
use Rattle.turns_bench.proofs.in_hall.join_all.Given as goal

abbrev pub invariant-loop-seat : goal.invariant-loop-seat
invariant-loop-seat l = (l.first.hall ≡ l.hall) × (l.first.has_turn ≡ false) × (l.first.number ≡ 0) × (length l.first.joined + length l.seats.items ≡ l.first.made) × All (λ seat. (seat.hall ≡ l.hall) × (seat.has_turn ≡ false)) l.seats.items

abbrev pub decreases-loop-seat : goal.decreases-loop-seat
decreases-loop-seat l = length l.seats.items
