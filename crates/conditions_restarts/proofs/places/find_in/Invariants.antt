use Rattle.std.proofs.Common.{◌≡◌, ◌≤◌, length, reverse, take}
use Rattle.conditions_restarts.specs.Places.{find_place}
use Rattle.conditions_restarts.proofs.places.find_in.Given as goal

-- what is left to search has the same answer
abbrev pub invariant-layers : goal.invariant-layers
invariant-layers l = (l.n ≤ length l.layers) × (find_place l.name (reverse (take l.n l.layers)) ≡ find_place l.name (reverse l.layers))

abbrev pub decreases-layers : goal.decreases-layers
decreases-layers l = l.n
