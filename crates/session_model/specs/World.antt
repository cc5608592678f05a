-- The world of a session: its image, its threads by number, and what it has written.
use Rattle.std.specs.Prelude.{ℕ, ◌+◌, Bool, false, List, [], ◌∷◌, ◌++◌, Option, Some, None, slice_get, slice_set}
use Rattle.std.specs.Option.{option_map_or}
use Rattle.lisp_data.specs.declared.value.Value.{Value}
use Rattle.rpc_messages.specs.declared.pattern.Pattern.TheVariants as pattern
use Rattle.rpc_messages.specs.declared.to_emacs.ToEmacs.{ToEmacs}
use Rattle.term_model.specs.declared.focus.Focus.TheVariants as focus
use Rattle.term_model.specs.Label.{Label}
pub use Rattle.term_model.specs.Label.{messages_in}
use Rattle.term_model.specs.Term.{Term, At}
use Rattle.step_model.specs.Image.{ImageState}
use Rattle.step_model.specs.Now.{Mailbox}

-- a live thread
pub record Thread : Type 0 where
  pub term : Term
  -- the serial of its next protected form
  pub serial : ℕ
  -- the messages that were routed to it and that it hasn't taken
  pub mailbox : Mailbox
  -- the interrupts that were kept for it and that no loan has taken
  pub interrupts : ℕ
  -- the seat to which it is lent
  pub lent : Option ℕ

pub record World : Type 0 where
  pub image : ImageState
  -- by number; None where the thread has ended. No thread has the number 0
  pub threads : List (Option Thread)
  -- the live workers, in front the one to which a request was routed last
  pub workers : List ℕ
  -- the tag of the next question
  pub tag : ℕ
  -- what is inspected, and behind it the values kept before
  pub inspected : List Value
  -- the messages to Emacs that were drained, and those that weren't
  pub drained : List ToEmacs
  pub undrained : List ToEmacs
  -- how many entries the journal has
  pub places : ℕ
  -- whether the input has ended
  pub ended : Bool
  -- whether a request has closed the session
  pub closed : Bool

-- a thread that waits for a request at its top
abbrev pub fresh : Mailbox → Thread
fresh mailbox = record { term = At (focus.Wait pattern.Rex); serial = 0; mailbox = mailbox; interrupts = 0; lent = None }

-- the world of an empty journal: thread 1, the one of the REPL, waits
abbrev pub start : ImageState → World
start image = record {
  image = image;
  threads = None ∷ Some (fresh []) ∷ [];
  workers = [];
  tag = 1;
  inspected = [];
  drained = [];
  undrained = [];
  places = 0;
  ended = false;
  closed = false;
}

-- the thread of the REPL
abbrev pub repl : ℕ
repl = 1

-- the live thread of a number among threads
abbrev pub thread_in : List (Option Thread) → ℕ → Option Thread
thread_in threads t = option_map_or (λ thread. thread) (slice_get threads t) None

-- the live thread of a number
abbrev pub thread_at : World → ℕ → Option Thread
thread_at w t = thread_in w.threads t

-- the world with the thread of a number in this state
abbrev pub with_thread : World → ℕ → Option Thread → World
with_thread w t thread = record w { threads = slice_set w.threads t thread }

abbrev pub numbers_from : ℕ → List (Option Thread) → List ℕ
numbers_from t [] = []
numbers_from t (None ∷ threads) = numbers_from (t + 1) threads
numbers_from t (Some thread ∷ threads) = t ∷ numbers_from (t + 1) threads

-- the numbers of the live threads
abbrev pub live : World → List ℕ
live w = numbers_from 0 w.threads

-- what happened: the world afterwards, and what it tells
pub record Happened : Type 0 where
  pub after : World
  pub labels : List Label

-- what is told is written, as far as it is messages
abbrev pub tells : World → List Label → Happened
tells w ls = record { after = record w { undrained = w.undrained ++ messages_in ls }; labels = ls }

abbrev pub silent : World → Happened
silent w = record { after = w; labels = [] }

-- one thing after another
abbrev pub then : Happened → (World → Happened) → Happened
then h further = let g = further h.after in record { after = g.after; labels = h.labels ++ g.labels }
