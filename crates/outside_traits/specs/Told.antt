-- Octets that a device may tell or keep to itself.
use Rattle.std.specs.Prelude.{ℕ, List, Option, Some, None}

-- the device tells its octets before and after, and they are so related; or it tells them at neither time
abbrev pub BothTold : Option (List ℕ) → Option (List ℕ) → (List ℕ → List ℕ → Type 0) → Type 0
BothTold (Some old) (Some new) P = P old new
BothTold None None P = Unit {0}
BothTold _ _ P = ⊥
