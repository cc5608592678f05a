-- A restart that isn't there any more: no level is open, another level is the current one, or it has no restart at that place.
use Rattle.std.specs.Prelude.{◌≡◌, ℤ, ◌⊎◌, false, Option, Some, None}
use Rattle.term_model.specs.Levels.{Level}
use Rattle.term_model.specs.Restarts.{restarts_of_level}
use Rattle.step_model.specs.Requests.{is_number, item_at}

-- the restart at place i of level k, where this is the current level
abbrev pub IsStale : Option Level → ℤ → ℤ → Type 0
IsStale None k i = Unit {0}
IsStale (Some level) k i = (is_number k level.number ≡ false) ⊎ (item_at (restarts_of_level level.around) i ≡ None)
