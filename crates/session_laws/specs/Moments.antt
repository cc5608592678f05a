-- A moment of a session: how far its journal has come, after any of its entries and after any step of a burst.
use Rattle.std.specs.Prelude.{ℕ, ◌<◌, ◌≤◌, List, [], ◌∷◌}
use Rattle.session_model.specs.declared.event.Entry.{Entry}
use Rattle.session_model.specs.declared.event.Event.TheVariants.{Burst}

-- the entry that thread t made so many steps for a seat
abbrev pub burst : ℕ → ℕ → ℕ → Entry
burst seat t n = record { seat = seat; event = Burst t n }

-- a moment of a journal is a beginning of it, the last burst of which may be shorter. What stands then is the beginning's own run
pub data IsMoment : List Entry → List Entry → Type 0 where
  -- before all entries
  opening : {j : List Entry} → IsMoment [] j
  -- in a burst, after one of its steps
  within : {seat t k n : ℕ} {j : List Entry} → 0 < k → k ≤ n → IsMoment (burst seat t k ∷ []) (burst seat t n ∷ j)
  -- behind an entry, at a moment of what follows it
  behind : {e : Entry} {m j : List Entry} → IsMoment m j → IsMoment (e ∷ m) (e ∷ j)
