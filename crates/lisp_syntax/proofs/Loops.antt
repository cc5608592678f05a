-- Items one by one: what the whole is read as is what is there, and behind it what the rest is read as.
use Rattle.std.proofs.Common.{List, ◌++◌}
use Rattle.std.specs.Prelude.{Option, Some, None}

abbrev pub behind : {A : Type 0} → List A → Option (List A) → Option (List A)
behind xs None = None
behind xs (Some ys) = Some (xs ++ ys)

abbrev pub both_behind : {A B : Type 0} → List A → List B → Option (List A × List B) → Option (List A × List B)
both_behind xs zs None = None
both_behind xs zs (Some ys) = Some (xs ++ ys.0, zs ++ ys.1)

abbrev pub led_behind : {A B : Type 0} → List A → List A × B → List A × B
led_behind xs ys = (xs ++ ys.0, ys.1)
