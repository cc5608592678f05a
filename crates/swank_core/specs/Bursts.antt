-- What the steps of a burst do to a session's world, and what the code keeps of it.
use Rattle.std.specs.Prelude.{◌≡◌, ℕ, ◌+◌, ◌-◌, Bool, true, false, List, ◌++◌, Option, Some, None, slice_set}
use Rattle.rpc_messages.specs.declared.to_emacs.ToEmacs.{ToEmacs}
use Rattle.term_model.specs.Label.{Label, messages_in}
use Rattle.step_model.specs.Image.{ImageState}
use Rattle.step_model.specs.Now.{Mailbox}
use Rattle.server_rules.specs.Rules.{rules}
use Rattle.session_model.specs.Arriving.{workers_without}
use Rattle.session_model.specs.Pipe.{burst_length}
use Rattle.session_model.specs.Running.{bursts, steps, steps_once, swept}
use Rattle.session_model.specs.World.{Thread, World, thread_at}
use Rattle.swank_core.specs.Live.{LiveState}
use Rattle.swank_core.specs.Threads.{number_of, thread_of}
use Rattle.swank_core.specs.declared.record.Record.{Record}

-- the world shows this thread and this image, and is not closed
pub record Shows (w : World) (r : Record) (image : ImageState) : Type 0 where
  pub at : thread_at w (number_of r) ≡ Some (thread_of r)
  pub image_is : w.image ≡ image
  pub still : w.closed ≡ false

-- the messages that sweep a mailbox
abbrev pub swept_from : Mailbox → List ToEmacs
swept_from mailbox = messages_in (swept 0 mailbox)

-- the world with a thread, the image and the workers as they are now, and what was told
abbrev pub moved : World → ℕ → Option Thread → ImageState → List ℕ → List Label → World
moved w t thread image workers ls = record w {
  image = image;
  threads = slice_set w.threads t thread;
  workers = workers;
  undrained = w.undrained ++ messages_in ls;
}

pub record IsStep (w : World) (t : ℕ) (before : List ToEmacs) (thread : Option Thread) (image : ImageState) (workers : List ℕ) (after : List ToEmacs) : Type 0 where
  pub world : (steps_once rules w t).after ≡ moved w t thread image workers (steps_once rules w t).labels
  pub outs : after ≡ before ++ messages_in (steps_once rules w t).labels

-- what one step came to: the thread stands where it stands now, or is a worker that ended, whose mailbox is still to be swept
abbrev pub Steps : World → Record → List ToEmacs → Record → ImageState → List ToEmacs → Bool → Type 0
Steps w old before new image after false = IsStep w (number_of old) before (Some (thread_of new)) image w.workers after
Steps w old before new image after true = IsStep w (number_of old) before None image (workers_without (number_of old) w.workers) (after ++ swept_from new.mailbox)

-- so many steps were made, and the thread goes on
pub record Going (w : World) (max n : ℕ) (old : Record) (before : List ToEmacs) (new : Record) (image : ImageState) (after : List ToEmacs) : Type 0 where
  pub world : (steps rules n (number_of old) w).after ≡ moved w (number_of old) (Some (thread_of new)) image w.workers (steps rules n (number_of old) w).labels
  pub outs : after ≡ before ++ messages_in (steps rules n (number_of old) w).labels
  pub left : burst_length rules max (number_of old) w ≡ n + burst_length rules (max - n) (number_of old) (steps rules n (number_of old) w).after

pub record IsRun (w : World) (max t : ℕ) (before : List ToEmacs) (thread : Option Thread) (image : ImageState) (workers : List ℕ) (after : List ToEmacs) (n : ℕ) : Type 0 where
  pub many : n ≡ burst_length rules max t w
  pub world : (steps rules n t w).after ≡ moved w t thread image workers (steps rules n t w).labels
  pub outs : after ≡ before ++ messages_in (steps rules n t w).labels

-- what the steps of a burst came to
abbrev pub Runs : World → ℕ → Record → List ToEmacs → Record → ImageState → List ToEmacs → ℕ → Bool → Type 0
Runs w max old before new image after n false = IsRun w max (number_of old) before (Some (thread_of new)) image w.workers after n
Runs w max old before new image after n true = IsRun w max (number_of old) before None image (workers_without (number_of old) w.workers) (after ++ swept_from new.mailbox) n

abbrev pub workers_if : Bool → ℕ → List ℕ → List ℕ
workers_if true t workers = workers_without t workers
workers_if false t workers = workers

-- what a burst came to among all threads
pub record IsBurst (w : World) (max t : ℕ) (before : List ToEmacs) (threads : List (Option Thread)) (image : ImageState) (after : List ToEmacs) (n : ℕ) (over : Bool) : Type 0 where
  pub many : n ≡ burst_length rules max t w
  pub outs : after ≡ before ++ messages_in (bursts rules w t n).labels
  pub world : (bursts rules w t n).after ≡ record w {
    image = image;
    threads = threads;
    workers = workers_if over t w.workers;
    undrained = w.undrained ++ messages_in (bursts rules w t n).labels;
  }

-- the same of what is kept live
pub record Bursts (w : World) (max t n : ℕ) (new : LiveState) (told : List ToEmacs) : Type 0 where
  pub many : n ≡ burst_length rules max t w
  pub world : (bursts rules w t n).after ≡ record w { image = new.image; threads = new.threads; workers = new.workers; undrained = w.undrained ++ told }
