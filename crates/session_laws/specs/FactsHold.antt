-- The facts of terms and marks hold of every thread after every journal.
use Rattle.std.specs.Prelude.{◌≡◌, ℕ, List, Some, None}
use Rattle.term_model.specs.Term.{split}
use Rattle.step_model.specs.Facts.{IsSound}
use Rattle.step_model.specs.Image.{ImageState}
use Rattle.step_model.specs.Order.{IsOrdered}
use Rattle.step_model.specs.Rooms.{HasRoom, HasRoomBroken}
use Rattle.step_model.specs.Rules.{Rules}
use Rattle.session_model.specs.declared.event.Entry.{Entry}
use Rattle.session_model.specs.Journal.{run}
use Rattle.session_model.specs.World.{Thread, thread_at}
use Rattle.session_laws.specs.Seen.{state_in}

-- waits and requests stand only in the top and in levels, saved exits lead outwards, running handlers are around; levels are numbered
-- from the outside and are at most as many as there may be, and the serials of protected forms and cleanups differ and are below the next
pub record FactsHold (rules : Rules) (image : ImageState) (j : List Entry) : Type 0 where
  pub sound : (t : ℕ) (thread : Thread) → thread_at (run rules image j) t ≡ Some thread → IsSound rules.built.levels (split thread.term).0 (split thread.term).1
  pub ordered : (t : ℕ) (thread : Thread) → thread_at (run rules image j) t ≡ Some thread → IsOrdered (state_in thread)

-- in a legal journal: no redex has more layers around it than the limit, and one more where an interrupt was taken, while the thread is
-- lent
pub record HaveRoom (rules : Rules) (image : ImageState) (j : List Entry) : Type 0 where
  pub not_lent : (t : ℕ) (thread : Thread) → thread_at (run rules image j) t ≡ Some thread → thread.lent ≡ None → HasRoom (split thread.term).0 (split thread.term).1
  pub lent : (t : ℕ) (thread : Thread) → thread_at (run rules image j) t ≡ Some thread → HasRoomBroken (split thread.term).0 (split thread.term).1
