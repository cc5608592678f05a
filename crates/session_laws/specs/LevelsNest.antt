-- Levels of the debugger open and close without gaps, as Emacs sees them.
use Rattle.std.specs.Prelude.{◌≡◌, ℕ, zero, suc, ◌+◌, ◌-◌, ◌&&◌, if◌then◌else◌, nat_lt, ◌==◌, List, [], ◌∷◌, Option, Some, None, fold}
use Rattle.rpc_messages.specs.declared.to_emacs.ToEmacs.{ToEmacs}
use Rattle.rpc_messages.specs.declared.to_emacs.ToEmacs.TheVariants as message
use Rattle.term_model.specs.Levels.{level_numbers}
use Rattle.term_model.specs.Room.{levels}
use Rattle.term_model.specs.Term.{split}
use Rattle.step_model.specs.Image.{ImageState}
use Rattle.step_model.specs.Rules.{Rules}
use Rattle.session_model.specs.declared.event.Entry.{Entry}
use Rattle.session_model.specs.Journal.{outputs, run}
use Rattle.session_model.specs.World.{Thread, thread_at}

-- `:debug` of level n at a depth: the level outside it is open, or this level is announced again
abbrev pub raised : ℕ → ℕ → Option ℕ
raised d n = if n == d + 1 then Some n else (if (n == d) && nat_lt 0 n then Some n else None)

-- `:debug-return` of level n at a depth: this level is the innermost
abbrev pub lowered : ℕ → ℕ → Option ℕ
lowered d n = if (n == d) && nat_lt 0 n then Some (n - 1) else None

-- what a message says of the depth of thread t
abbrev pub heard : ℕ → ℕ → ToEmacs → Option ℕ
heard t d (message.Debug u n text kind restarts frames continuations) = if u == t then raised d n else Some d
heard t d (message.DebugReturn u n) = if u == t then lowered d n else Some d
heard t d m = Some d

abbrev pub viewed : ℕ → Option ℕ → ToEmacs → Option ℕ
viewed t None m = None
viewed t (Some d) m = heard t d m

-- the depth of thread t as Emacs has it after these messages, None where they make no sense
abbrev pub view : ℕ → List ToEmacs → Option ℕ
view t ms = fold (viewed t) (Some 0) ms

-- n, and the numbers below it, down to 1
abbrev pub descending : ℕ → List ℕ
descending zero = []
descending (suc n) = suc n ∷ descending n

-- Emacs's depth of a live thread is the number of its levels, which are numbered from 1 on, from the outside; that of every other
-- number is 0
pub record LevelsNest (rules : Rules) (image : ImageState) (j : List Entry) : Type 0 where
  pub depth : (t : ℕ) (thread : Thread) → thread_at (run rules image j) t ≡ Some thread → view t (outputs rules image j) ≡ Some (levels (split thread.term).0)
  pub numbers : (t : ℕ) (thread : Thread) → thread_at (run rules image j) t ≡ Some thread → level_numbers (split thread.term).0 ≡ descending (levels (split thread.term).0)
  pub ended : (t : ℕ) → thread_at (run rules image j) t ≡ None → view t (outputs rules image j) ≡ Some 0
