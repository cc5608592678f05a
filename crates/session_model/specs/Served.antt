-- What holds of the journal of a served session, whatever its seats did: its bursts are long, and its reader keeps pace.
use Rattle.std.specs.Prelude.{ℕ, ◌+◌, ◌==◌, nat_lt, nat_le, Bool, true, false, ◌&&◌, ◌||◌, not, List, [], ◌∷◌, length, take, IsTrue}
use Rattle.std.specs.List.{list_any}
use Rattle.step_model.specs.Image.{ImageState}
use Rattle.step_model.specs.Rules.{Rules}
use Rattle.session_model.specs.declared.event.Entry.{Entry}
use Rattle.session_model.specs.declared.event.Event.{Event}
use Rattle.session_model.specs.declared.event.Event.TheVariants.{Arrive, Burst, Drain}
use Rattle.session_model.specs.Journal.{next}
use Rattle.session_model.specs.Legal.{is_quiet, may_step, max_burst}
use Rattle.session_model.specs.World.{World, start}

-- how many steps a served session makes after the end of its input
abbrev pub max_after_end : ℕ
max_after_end = 1000000

-- the steps that an event adds to those after the end
abbrev pub steps_in : Bool → Event → ℕ
steps_in true (Burst t n) = n
steps_in _ _ = 0

-- whether a burst went on as far as it could: 256 steps, or the thread has ended, waits for what isn't there or has closed the session,
-- or the steps after the end are used; `spent` counts those, this burst among them
abbrev pub is_long : ℕ → World → Event → Bool
is_long spent after (Burst t n) = (n == max_burst) || not (may_step after t) || nat_le max_after_end spent
is_long spent after _ = true

-- each burst of these entries is long, where so many steps were made after the end of the input
abbrev pub AreLong : Rules → ℕ → World → List Entry → Type 0
AreLong rules spent w [] = Unit {0}
AreLong rules spent w (e ∷ j) =
    IsTrue (is_long (spent + steps_in w.ended e.event) (next rules w e).after e.event)
    × AreLong rules (spent + steps_in w.ended e.event) (next rules w e).after j

-- each burst of the journal is long
abbrev pub IsFilled : Rules → ImageState → List Entry → Type 0
IsFilled rules image j = AreLong rules 0 (start image) j

-- how many outputs may wait, and how many entries may pass without a burst or a drain, before the reader waits
abbrev pub max_waiting : ℕ
max_waiting = 1000

abbrev pub is_progress : Entry → Bool
is_progress e = by_event e.event
  where
    by_event : Event → Bool
    by_event (Burst t n) = true
    by_event (Drain k) = true
    by_event _ = false

-- whether the entries directly before, the newest first, hold a burst or a drain, where there are so many
abbrev pub has_progress : List Entry → Bool
has_progress before = nat_lt (length before) max_waiting || list_any is_progress (take max_waiting before)

-- whether an event may come now: a message comes only while few outputs wait and the threads make progress
abbrev pub keeps_pace : List Entry → World → Event → Bool
keeps_pace before w (Arrive m) = nat_lt (length w.undrained) max_waiting && (is_quiet w || has_progress before)
keeps_pace before w _ = true

-- each message of these entries came at its time, where these entries were before, the newest first
abbrev pub KeepPace : Rules → List Entry → World → List Entry → Type 0
KeepPace rules before w [] = Unit {0}
KeepPace rules before w (e ∷ j) = IsTrue (keeps_pace before w e.event) × KeepPace rules (e ∷ before) (next rules w e).after j

-- the reader of the journal kept pace
abbrev pub IsPaced : Rules → ImageState → List Entry → Type 0
IsPaced rules image j = KeepPace rules [] (start image) j
