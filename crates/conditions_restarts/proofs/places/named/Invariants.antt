use Rattle.std.proofs.Common.{length, ◌-◌, ◌≡◌, drop}
use Rattle.conditions_restarts.specs.Places.{named_from}
use Rattle.conditions_restarts.proofs.places.named.Given as goal

-- what is left to look at has the same answer
abbrev pub invariant-offers : goal.invariant-offers
invariant-offers l = named_from l.name l.n (drop l.n l.offers) ≡ named_from l.name 0 l.offers

abbrev pub decreases-offers : goal.decreases-offers
decreases-offers l = length l.offers - l.n
