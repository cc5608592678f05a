use Rattle.std.proofs.Common.{◌≡◌, ◌≤◌, length, reverse, take}
use Rattle.lisp_frames.specs.Seeking.{nearest_sought}
use Rattle.lisp_frames.proofs.look_ups.nearest.Given as goal

-- what is left to search has the same answer
abbrev pub invariant-layers : goal.invariant-layers
invariant-layers l = (l.n ≤ length l.layers) × (nearest_sought l.sought (reverse (take l.n l.layers)) ≡ nearest_sought l.sought (reverse l.layers))

abbrev pub decreases-layers : goal.decreases-layers
decreases-layers l = l.n
