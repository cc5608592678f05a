-- What the laws see of a thread, by its number: one that isn't made yet, a live one, or one that has ended.
use Rattle.std.specs.Prelude.{ℕ, List, Option, Some, None, slice_get}
use Rattle.term_model.specs.Term.{split}
use Rattle.step_model.specs.Marks.{State, marks}
use Rattle.session_model.specs.World.{Thread}

pub data Seen : Type 0 where
  Unborn : Seen
  Alive : State → Seen
  Gone : Seen

abbrev pub state_in : Thread → State
state_in thread = record { marks = marks (split thread.term).0; serial = thread.serial; mailbox = thread.mailbox }

abbrev pub seen : Option (Option Thread) → Seen
seen None = Unborn
seen (Some None) = Gone
seen (Some (Some thread)) = Alive (state_in thread)

-- of the thread of a number among threads
abbrev pub seen_in : List (Option Thread) → ℕ → Seen
seen_in threads t = seen (slice_get threads t)
