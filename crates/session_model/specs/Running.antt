-- What a thread does: it is lent, which takes an interrupt, it makes steps, and a worker ends once its request is over.
use Rattle.std.specs.Prelude.{ℕ, zero, suc, ◌==◌, Bool, true, false, ◌&&◌, not, List, [], ◌∷◌, ◌++◌, Option, Some, None}
use Rattle.rpc_messages.specs.declared.from_emacs.FromEmacs.TheVariants as mail
use Rattle.rpc_messages.specs.declared.to_emacs.Returned.TheVariants as returned
use Rattle.rpc_messages.specs.declared.to_emacs.ToEmacs.TheVariants as message
use Rattle.term_model.specs.Breaks.{broken, max_levels, may_open}
use Rattle.term_model.specs.Label.{Label, Swept, Out, Broke}
use Rattle.term_model.specs.Term.{At, plug, split}
use Rattle.step_model.specs.Now.{Mailbox, Now}
use Rattle.step_model.specs.Rules.{Rules}
use Rattle.step_model.specs.AsBuilt.{step_as_built}
use Rattle.session_model.specs.Arriving.{workers_without}
use Rattle.session_model.specs.World.{Thread, World, Happened, repl, thread_at, with_thread, live, tells, silent, then}

-- the thread once a loan took one of so many interrupts, where so many levels are opened
abbrev pub interrupted : (most : ℕ) → ℕ → Thread → Thread
interrupted most zero thread = thread
interrupted most (suc n) thread = record thread { term = broken most thread.term; interrupts = n }

-- the interrupt is taken by a break, unless as many levels are open as there may be
abbrev pub broke_if : ℕ → ℕ → Bool → List Label
broke_if t (suc n) true = Broke t ∷ []
broke_if t (suc n) false = []
broke_if t zero _ = []

abbrev pub lends_thread : (most : ℕ) → World → ℕ → ℕ → Option Thread → Happened
lends_thread most w seat t (Some thread) =
    tells (with_thread w t (Some (record (interrupted most thread.interrupts thread) { lent = Some seat })))
    (broke_if t thread.interrupts (may_open most (split thread.term).0))
lends_thread most w seat t None = silent w

-- a thread is lent to a seat
abbrev pub lends : (most : ℕ) → World → ℕ → ℕ → Happened
lends most w seat t = lends_thread most w seat t (thread_at w t)

-- what the next step of a thread reads
abbrev pub now_of : World → ℕ → Thread → Now
now_of w t thread =
    let s = split thread.term in
    record {
      thread = t;
      context = s.0;
      redex = s.1;
      serial = thread.serial;
      mailbox = thread.mailbox;
      image = w.image;
      tag = w.tag;
      inspected = w.inspected;
      threads = live w;
      most = max_levels;
      labels = [];
      over = false;
      closed = w.closed;
    }

-- what a worker that ended answers to the requests that it never took, in order of arrival
abbrev pub swept : ℕ → Mailbox → List Label
swept t [] = []
swept t ((i, mail.Rex form «package» thread id) ∷ mailbox) = Swept t i ∷ Out (message.Return id returned.Abort) ∷ swept t mailbox
swept t (_ ∷ mailbox) = swept t mailbox

-- what a step leaves of the session beside its thread
abbrev pub with_session : World → Now → World
with_session w n = record w { image = n.image; tag = n.tag; inspected = n.inspected; closed = n.closed }

abbrev pub after_step : Thread → Now → Thread
after_step thread n = record thread { term = plug n.context (At n.redex); serial = n.serial; mailbox = n.mailbox }

-- a worker ends where the step ended the request at its top, or an exit came to its top
abbrev pub settles : World → ℕ → Thread → Now → Bool → Happened
settles w t thread n false = tells (with_thread (with_session w n) t (Some (after_step thread n))) n.labels
settles w t thread n true =
    tells (with_thread (record (with_session w n) { workers = workers_without t w.workers }) t None) (n.labels ++ swept t n.mailbox)

abbrev pub is_over : ℕ → Now → Bool
is_over t n = n.over && not (t == repl)

abbrev pub step_of : Rules → World → ℕ → Option Thread → Happened
step_of rules w t (Some thread) = let n = step_as_built rules.built rules (now_of w t thread) in settles w t thread n (is_over t n)
step_of rules w t None = silent w

-- one step of a thread
abbrev pub steps_once : Rules → World → ℕ → Happened
steps_once rules w t = step_of rules w t (thread_at w t)

-- so many steps of a thread
abbrev pub steps : Rules → ℕ → ℕ → World → Happened
steps rules zero t w = silent w
steps rules (suc n) t w = then (steps_once rules w t) (steps rules n t)

abbrev pub unlent : World → ℕ → Option Thread → World
unlent w t (Some thread) = with_thread w t (Some (record thread { lent = None }))
unlent w t None = w

-- a thread's loan ends
abbrev pub returns : ℕ → World → Happened
returns t w = silent (unlent w t (thread_at w t))

-- a burst: so many steps, and the end of the loan
abbrev pub bursts : Rules → World → ℕ → ℕ → Happened
bursts rules w t n = then (steps rules n t w) (returns t)
