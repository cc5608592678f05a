use Rattle.std.proofs.Common.{◌≡◌, ◌-◌, ◌≤◌, All, false, length}
use Rattle.turns_bench.proofs.in_hall.split_all.Given as goal

abbrev pub decreases-loop-seats : goal.decreases-loop-seats
decreases-loop-seats l = l.count - length l.seats.items

abbrev pub invariant-loop-seats : goal.invariant-loop-seats
invariant-loop-seats l = (l.first.hall ≡ l.hall) × (l.first.has_turn ≡ false) × (l.first.number ≡ 0) × (l.first.made ≡ length l.seats.items) × (l.first.joined ≡ l.initial.first.joined)
    × (l.count ≤ l.seats.cap) × All (λ seat. (seat.hall ≡ l.hall) × (seat.has_turn ≡ false)) l.seats.items
