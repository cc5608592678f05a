-- A live session, as its callers see it: the image that it was opened with, its limits and its journal.
use Rattle.std.specs.Prelude.{◌≡◌, ℕ, ◌+◌, ◌≤◌, nat_lt, Bool, true, false, ◌||◌, not, if◌then◌else◌, List, [], ◌∷◌, ◌++◌, length, find, Option, Some, None, Result, Ok, Err}
use Rattle.session_model.specs.declared.event.Entry.{Entry}
use Rattle.session_model.specs.declared.event.Event.{Event}
use Rattle.session_model.specs.declared.event.Event.TheVariants as event
use Rattle.session_model.specs.declared.limits.Limits.{Limits}
use Rattle.session_model.specs.Journal.{run}
use Rattle.session_model.specs.Legal.{is_lent, is_ready}
use Rattle.session_model.specs.Pipe.{numbers}
use Rattle.session_model.specs.World.{Thread, World}
use Rattle.step_model.specs.Image.{ImageState}
use Rattle.server_rules.specs.Rules.{rules}
use Rattle.swank_core.specs.declared.fault.CoreFault.{CoreFault}
use Rattle.swank_core.specs.declared.fault.CoreFault.TheVariants.{Failed, Closed, Full, NoMemory}

pub record Session : Type 0 where
  pub opened : ImageState
  pub limits : Limits
  pub journal : List Entry
  -- whether memory was wanting
  pub failed : Bool
  -- whether it was halted
  pub halted : Bool

-- a session with no entry yet
abbrev pub opening : ImageState → Limits → Session
opening image limits = record { opened = image; limits = limits; journal = []; failed = false; halted = false }

-- what its journal makes of the world
abbrev pub world : Session → World
world s = run rules s.opened s.journal

-- no further event is taken but a drain
abbrev pub is_closed : Session → Bool
is_closed s = s.halted || (world s).closed

-- the last place of the journal is kept for a drain
abbrev pub is_full : Session → Bool
is_full s = not (nat_lt (length s.journal + 1) s.limits.journal)

abbrev pub refusal : Bool → Bool → Bool → Option CoreFault
refusal true closed full = Some Failed
refusal false true full = Some Closed
refusal false false true = Some Full
refusal false false false = None

-- why the next event is refused
abbrev pub blocked : Session → Option CoreFault
blocked s = refusal s.failed (is_closed s) (is_full s)

-- with one entry more
abbrev pub with_entry : Session → ℕ → Event → Session
with_entry s seat e = record s { journal = s.journal ++ record { seat = seat; event = e } ∷ [] }

-- an event adds one entry, that of its name, where it succeeds; want of memory leaves the journal; any other refusal has its cause
-- before, and leaves all
abbrev pub Adds : {A : Type 0} → ℕ → (A → Event) → Session → Result A CoreFault → Session → Type 0
Adds seat event old (Ok a) new = (blocked old ≡ None) × (new ≡ with_entry old seat (event a))
Adds seat event old (Err NoMemory) new = (blocked old ≡ None) × (new ≡ record old { failed = true })
Adds seat event old (Err fault) new = (blocked old ≡ Some fault) × (new ≡ old)

-- the least ready thread above this one
abbrev pub ready_above : World → ℕ → Option ℕ
ready_above w after = find (is_ready w) (numbers (length w.threads) (after + 1))

-- the least ready thread of a session above this one: none where it was halted
abbrev pub next_ready_of : Session → ℕ → Option ℕ
next_ready_of s after = if s.halted then None else ready_above (world s) after

-- how many threads are lent
abbrev pub lent_among : List (Option Thread) → ℕ
lent_among [] = 0
lent_among (None ∷ threads) = lent_among threads
lent_among (Some thread ∷ threads) = number_if (is_lent thread) + lent_among threads where
  number_if : Bool → ℕ
  number_if true = 1
  number_if false = 0

-- the steps that the bursts make which stand behind the end of the input
abbrev pub steps_behind : Bool → List Entry → ℕ
steps_behind ended [] = 0
steps_behind ended (e ∷ j) = steps_in ended e.event + steps_behind (ended || is_end e.event) j where
  is_end : Event → Bool
  is_end event.End = true
  is_end _ = false

  steps_in : Bool → Event → ℕ
  steps_in true (event.Burst t n) = n
  steps_in _ _ = 0

-- what limits may be: 1 to 100,000,000 steps, and 2 to 4,000,000 entries
pub record AreLimits (limits : Limits) : Type 0 where
  pub some_steps : 1 ≤ limits.steps
  pub steps : limits.steps ≤ 100000000
  pub some_entries : 2 ≤ limits.journal
  pub entries : limits.journal ≤ 4000000
