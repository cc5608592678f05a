-- A thread's machine, as its callers see it: its number and its stack; and what its next step reads.
use Rattle.std.specs.Prelude.{ℕ, [], false}
use Rattle.lisp_frames.specs.Stack.{StackState}
use Rattle.server_rules.specs.Beside.{Beside}
use Rattle.server_rules.specs.Built.{built}
use Rattle.step_model.specs.Image.{ImageState}
use Rattle.step_model.specs.Now.{Mailbox, Now}
use Rattle.term_model.specs.Breaks.{broken_at, max_levels, may_open}

-- what the next step of thread t reads
abbrev pub now_of : ℕ → StackState → Mailbox → ImageState → Beside → Now
now_of t s mailbox image b = record {
  thread = t;
  context = s.context;
  redex = s.redex;
  serial = s.serial;
  mailbox = mailbox;
  image = image;
  tag = b.tag;
  inspected = b.inspected;
  threads = b.threads;
  most = max_levels;
  labels = [];
  over = false;
  closed = b.closed;
}

-- the stack of a thread after a step
abbrev pub stack_of : Now → StackState
stack_of n = record { context = n.context; redex = n.redex; serial = n.serial }

-- the stack once an interrupt came
abbrev pub interrupted : StackState → StackState
interrupted s = let b = broken_at (may_open built.levels s.context) s.context s.redex in record { context = b.0; redex = b.1; serial = s.serial }
