-- The live workers, in the order in which requests were routed to them.
use Rattle.std.specs.Prelude.{◌≡◌, ℕ, ◌<◌, List, [], ◌∷◌}
use Rattle.session_model.specs.Arriving.{workers_without}

-- each stands once
abbrev pub AreDistinct : List ℕ → Type 0
AreDistinct [] = Unit {0}
AreDistinct (t ∷ workers) = (workers_without t workers ≡ workers) × AreDistinct workers

-- each stands once, and its number is below n
abbrev pub AreWorkers : ℕ → List ℕ → Type 0
AreWorkers n [] = Unit {0}
AreWorkers n (t ∷ workers) = (t < n) × (workers_without t workers ≡ workers) × AreWorkers n workers
