-- A thread in the midst of a step: its stack, and all the rest of what a step reads and leaves. No level of the debugger is opened.
use Rattle.std.specs.Prelude.{ℕ, Bool, false, List, ◌++◌}
use Rattle.lisp_data.specs.declared.value.Value.{Value}
use Rattle.lisp_frames.specs.Stack.{StackState}
use Rattle.step_model.specs.Image.{ImageState}
use Rattle.step_model.specs.Now.{Mailbox, Now}
use Rattle.term_model.specs.Label.{Label}

pub record Rest : Type 0 where
  pub thread : ℕ
  pub mailbox : Mailbox
  pub image : ImageState
  -- the tag of the session's next question
  pub tag : ℕ
  pub inspected : List Value
  pub threads : List ℕ
  pub labels : List Label
  pub closed : Bool

abbrev pub amid : Rest → StackState → Now
amid r s = record {
  thread = r.thread;
  context = s.context;
  redex = s.redex;
  serial = s.serial;
  mailbox = r.mailbox;
  image = r.image;
  tag = r.tag;
  inspected = r.inspected;
  threads = r.threads;
  most = 0;
  labels = r.labels;
  over = false;
  closed = r.closed;
}

-- the rest once this was told as well
abbrev pub telling : List Label → Rest → Rest
telling ls r = record r { labels = r.labels ++ ls }

-- a request at the thread's top ended, or an exit came to the top
abbrev pub ended_if : Bool → Now → Now
ended_if over n = record n { over = over }
