use Rattle.std.proofs.Common.{◌≡◌, ◌≤◌, false}
use Rattle.turnstile.proofs.tests.add.Given as goal

abbrev pub invariant-loop-n : goal.invariant-loop-n
invariant-loop-n g l = (l.n ≤ l.times) × (l.seat.hall ≡ l.hall) × (l.seat.has_turn ≡ false)
