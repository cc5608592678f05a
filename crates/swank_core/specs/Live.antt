-- The image, the threads and the workers of a session, as the code keeps them beside the rest of its world.
use Rattle.std.specs.Prelude.{◌≡◌, ℕ, List, Option, Some}
use Rattle.rpc_messages.specs.declared.to_emacs.ToEmacs.{ToEmacs}
use Rattle.term_model.specs.Label.{messages_in}
use Rattle.mailboxes.specs.Mail.{AllBefore}
use Rattle.step_model.specs.Image.{ImageState}
use Rattle.session_model.specs.World.{Thread, World, Happened, thread_in}

pub record LiveState : Type 0 where
  pub image : ImageState
  -- by number, None where the thread has ended
  pub threads : List (Option Thread)
  -- the live workers, in front the one to which a request was routed last
  pub workers : List ℕ

-- what is kept of a world
abbrev pub shown : World → LiveState
shown w = record { image = w.image; threads = w.threads; workers = w.workers }

-- what happened is kept, and these are the messages that were told
pub record Does (h : Happened) (new : LiveState) (outs : List ToEmacs) : Type 0 where
  pub live : new ≡ shown h.after
  pub outs_are : outs ≡ messages_in h.labels

-- the thread's messages came before this place of the journal
abbrev pub IsPlaced : ℕ → Thread → Type 0
IsPlaced at thread = AllBefore at thread.mailbox

abbrev pub ArePlaced : ℕ → List (Option Thread) → Type 0
ArePlaced at threads = (t : ℕ) (thread : Thread) → thread_in threads t ≡ Some thread → IsPlaced at thread
