-- What ties a core to the run of its journal.
use Rattle.std.specs.Prelude.{◌≡◌, ℕ, ◌+◌, ◌*◌, ◌<◌, ◌≤◌, Bool, true, false, List, length, Option, Some}
use Rattle.rpc_messages.specs.declared.to_emacs.ToEmacs.{ToEmacs}
use Rattle.session_model.specs.declared.event.Entry.{Entry}
use Rattle.session_model.specs.declared.limits.Limits.{Limits}
use Rattle.server_rules.specs.Rules.{rules}
use Rattle.session_model.specs.Journal.{run, steps_made}
use Rattle.session_model.specs.Legal.{can_step, is_lent, IsLegalFrom}
use Rattle.session_model.specs.World.{Thread, World, thread_in}
use Rattle.step_model.specs.Image.{ImageState}
use Rattle.swank_core.specs.Live.{shown, ArePlaced, LiveState}
use Rattle.swank_core.specs.Session.{Session, steps_behind}

-- the parts are those of the world, of the threads and the image only while memory was not wanting
pub record Ties (w : World) (journal : List Entry) (live : LiveState) (outs : List ToEmacs) (steps after_end : ℕ) (ended failed : Bool) : Type 0 where
  pub outs_are : outs ≡ w.undrained
  pub places_are : length journal ≡ w.places
  pub steps_are : steps ≡ steps_made journal
  pub after_are : after_end ≡ steps_behind false journal
  pub ended_is : ended ≡ w.ended
  -- no step that is built closes the session
  pub still : w.closed ≡ false
  pub placed : ArePlaced w.places w.threads
  pub few : length w.threads ≤ w.places + 2
  pub live_is : failed ≡ false → live ≡ shown w

-- a thread that is lent can make a step
abbrev pub GoesOn : Thread → Type 0
GoesOn thread = is_lent thread ≡ true → can_step thread ≡ true

abbrev pub LentGoOn : List (Option Thread) → Type 0
LentGoOn threads = (t : ℕ) (thread : Thread) → thread_in threads t ≡ Some thread → GoesOn thread

-- the journal is legal, and may go on with a burst of each thread that is lent
pub record HasLegal (opened : ImageState) (journal : List Entry) : Type 0 where
  pub legal : IsLegalFrom rules opened journal
  pub lent : LentGoOn (run rules opened journal).threads

-- there is a place for the drain of what is undrained, and numbers stay small
pub record Fits (journal : List Entry) (outs : List ToEmacs) (steps after_end : ℕ) (limits : Limits) : Type 0 where
  pub spare : 0 < length outs → length journal < limits.journal
  pub within : length journal ≤ limits.journal
  pub most : limits.journal ≤ 4000000
  pub steps_below : steps ≤ 256 * length journal
  pub after_below : after_end ≤ steps

-- the next event is not refused
pub record IsFree (s : Session) : Type 0 where
  pub whole : s.failed ≡ false
  pub running : s.halted ≡ false
  pub room : length s.journal + 1 < s.limits.journal
