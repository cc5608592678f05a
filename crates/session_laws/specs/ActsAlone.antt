-- What a thread does touches that thread alone.
use Rattle.std.specs.Prelude.{◌≡◌, ◌≢◌, ◌≤◌, ℕ, ◌+◌, List, [], ◌∷◌, Some, None, length, slice_get}
use Rattle.rpc_messages.specs.declared.from_emacs.FromEmacs.{FromEmacs}
use Rattle.rpc_messages.specs.declared.to_emacs.ToEmacs.{ToEmacs}
use Rattle.rpc_messages.specs.declared.to_emacs.ToEmacs.TheVariants as message
use Rattle.term_model.specs.Label.{Label, Routed, Took, Ended, Swept, Refused, Out, Opened, Closed, Cleanup, Broke}
use Rattle.step_model.specs.Rules.{Rules}
use Rattle.session_model.specs.declared.event.Event.TheVariants.{Arrive, End, Lend, Burst, Drain}
use Rattle.session_model.specs.Journal.{happens}
use Rattle.session_model.specs.World.{Happened, Thread, World, fresh, thread_at}

-- a message that names a thread names this one
abbrev pub NamesOnly : ℕ → ToEmacs → Type 0
NamesOnly t (message.Debug u n text kind restarts frames continuations) = u ≡ t
NamesOnly t (message.DebugActivate u n) = u ≡ t
NamesOnly t (message.DebugReturn u n) = u ≡ t
NamesOnly t (message.DebugCondition u text) = u ≡ t
NamesOnly t (message.ReadString u tag) = u ≡ t
NamesOnly t (message.ReadAborted u tag) = u ≡ t
NamesOnly t (message.YesNo u tag text) = u ≡ t
NamesOnly t m = Unit {0}

-- a label speaks of this thread alone, and routes and refuses nothing
abbrev pub IsOf : ℕ → Label → Type 0
IsOf t (Routed u i m) = ⊥
IsOf t (Took u i p) = u ≡ t
IsOf t (Ended u i result) = u ≡ t
IsOf t (Swept u i) = u ≡ t
IsOf t (Refused i) = ⊥
IsOf t (Out m) = NamesOnly t m
IsOf t (Opened u n) = u ≡ t
IsOf t (Closed u n) = u ≡ t
IsOf t (Cleanup u k) = u ≡ t
IsOf t (Broke u) = u ≡ t

abbrev pub AreOf : ℕ → List Label → Type 0
AreOf t [] = Unit {0}
AreOf t (l ∷ ls) = IsOf t l × AreOf t ls

-- every thread but this one stays as it was: its term, its mailbox, its interrupts and its loan; and what is told is of this one
pub record IsAlone (t : ℕ) (w : World) (h : Happened) : Type 0 where
  pub others : (u : ℕ) → u ≢ t → slice_get h.after.threads u ≡ slice_get w.threads u
  pub labels : AreOf t h.labels

-- each live thread still stands, with its term, its next serial and its loan; one that has ended stays so; one thread at most is new,
-- and that one waits at its top, with no interrupt and lent to nobody; and every thread but the one that the message is for stays as it was
pub record Receives (w v : World) : Type 0 where
  pub standing : (u : ℕ) (thread : Thread) → thread_at w u ≡ Some thread → (now : Thread) × (thread_at v u ≡ Some now) × (now.term ≡ thread.term) × (now.serial ≡ thread.serial) × (now.lent ≡ thread.lent)
  pub ended : (u : ℕ) → slice_get w.threads u ≡ Some None → slice_get v.threads u ≡ Some None
  pub new : (u : ℕ) (now : Thread) → slice_get w.threads u ≡ None → thread_at v u ≡ Some now → now ≡ fresh now.mailbox
  pub at_most_one_more : length v.threads ≤ length w.threads + 1
  pub others : (t : ℕ) × ((u : ℕ) → u ≢ t → slice_get v.threads u ≡ slice_get w.threads u)

-- in every world: a burst and a loan of a thread leave the others, an arrival leaves what threads do, and the end of the input and a
-- drain leave all threads
pub record ActsAlone (rules : Rules) (w : World) : Type 0 where
  pub burst : (seat t n : ℕ) → IsAlone t w (happens rules w seat (Burst t n))
  pub lend : (seat t : ℕ) → IsAlone t w (happens rules w seat (Lend t))
  pub arrive : (seat : ℕ) (m : FromEmacs) → Receives w (happens rules w seat (Arrive m)).after
  pub end : (seat : ℕ) → (happens rules w seat End).after.threads ≡ w.threads
  pub drain : (seat k : ℕ) → (happens rules w seat (Drain k)).after.threads ≡ w.threads
