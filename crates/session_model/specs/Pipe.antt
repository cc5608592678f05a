-- The journal of a piped session: the one schedule by which its messages are served. Each message arrives once the threads are
-- quiet, then rounds go through the threads in rising number, and what is written is handed out at once.
use Rattle.std.specs.Prelude.{◌≡◌, ℕ, zero, suc, ◌+◌, ◌-◌, min, Bool, true, ◌&&◌, not, if◌then◌else◌, List, [], ◌∷◌, ◌++◌, length, find, IsTrue, Option, Some, None}
use Rattle.rpc_messages.specs.declared.from_emacs.FromEmacs.{FromEmacs}
use Rattle.step_model.specs.Image.{ImageState}
use Rattle.step_model.specs.Rules.{Rules}
use Rattle.session_model.specs.declared.event.Entry.{Entry}
use Rattle.session_model.specs.declared.event.Event.{Event}
use Rattle.session_model.specs.declared.event.Event.TheVariants.{Arrive, End, Lend, Burst, Drain}
use Rattle.session_model.specs.declared.limits.Limits.{Limits}
use Rattle.session_model.specs.Journal.{arrivals, next, run}
use Rattle.session_model.specs.Legal.{is_quiet, is_ready, may_step, max_burst}
use Rattle.session_model.specs.Running.{steps_once}
use Rattle.session_model.specs.World.{World, start}

-- where the schedule stands
pub record Cursor : Type 0 where
  -- the messages to come
  pub messages : List FromEmacs
  -- whether the input ends behind them
  pub ends : Bool
  -- the thread that this round has reached
  pub reached : ℕ
  -- the thread that is lent
  pub lent : Option ℕ
  -- how many steps are left
  pub steps : ℕ

-- what comes next, and where the schedule stands behind it
pub record Turn : Type 0 where
  pub event : Event
  pub behind : Cursor

-- so many numbers, from this one up
abbrev pub numbers : ℕ → ℕ → List ℕ
numbers zero t = []
numbers (suc n) t = t ∷ numbers n (t + 1)

-- the threads in the order in which a round that has reached this one goes on: those behind it, and then the next round's
abbrev pub in_order : ℕ → ℕ → List ℕ
in_order reached count = numbers (count - (reached + 1)) (reached + 1) ++ numbers count 0

-- the first of them that is ready
abbrev pub next_ready : World → ℕ → Option ℕ
next_ready w reached = find (is_ready w) (in_order reached (length w.threads))

-- how many steps of a thread are made, of at most so many: until it has ended, waits for what isn't there, or has closed the session
abbrev pub burst_length : Rules → ℕ → ℕ → World → ℕ
burst_length rules zero t w = 0
burst_length rules (suc most) t w = if may_step w t then suc (burst_length rules most t (steps_once rules w t).after) else 0

abbrev pub turn_to : Event → Cursor → Option Turn
turn_to event behind = Some (record { event = event; behind = behind })

-- with all threads quiet: the next message, else the end of the input
abbrev pub feeds : World → Cursor → List FromEmacs → Option Turn
feeds w c (m ∷ ms) = turn_to (Arrive m) (record c { messages = ms; reached = 0; lent = None })
feeds w c [] = if c.ends && not w.ended then turn_to End (record c { messages = []; reached = 0; lent = None }) else None

-- a ready thread is lent, while steps are left
abbrev pub picks : World → Cursor → Option ℕ → ℕ → Option Turn
picks w c None steps = feeds w c c.messages
picks w c (Some t) zero = None
picks w c (Some t) (suc steps) = turn_to (Lend t) (record c { reached = t; lent = Some t })

-- the thread that is lent makes its burst
abbrev pub runs : Rules → World → Cursor → Option ℕ → Option Turn
runs rules w c None = picks w c (next_ready w c.reached) c.steps
runs rules w c (Some t) =
    let n = burst_length rules (min max_burst c.steps) t w in
    turn_to (Burst t n) (record c { lent = None; steps = c.steps - n })

-- the last place of a journal is kept for a drain
abbrev pub with_place : ℕ → Option Turn → Option Turn
with_place zero turn = None
with_place (suc places) turn = turn

-- outputs are drained before all else, and after the close nothing else happens
abbrev pub turns : Rules → ℕ → World → Cursor → ℕ → Option Turn
turns rules places w c (suc k) = turn_to (Drain (suc k)) c
turns rules places w c zero = if w.closed then None else with_place places (runs rules w c c.lent)

-- what comes next where the journal has so many places behind it
abbrev pub turn : Rules → ℕ → World → Cursor → Option Turn
turn rules places w c = turns rules places w c (length w.undrained)

-- all entries of a pipe are made by seat 0
abbrev pub by_pipe : Event → Entry
by_pipe event = record { seat = 0; event = event }

abbrev pub from_turn : Option Turn → (Turn → List Entry) → List Entry
from_turn None further = []
from_turn (Some x) further = further x

-- the entries from here on, so many at most
abbrev pub schedule : Rules → ℕ → World → Cursor → List Entry
schedule rules zero w c = []
schedule rules (suc places) w c =
    from_turn (turn rules places w c) (λ x. by_pipe x.event ∷ schedule rules places (next rules w (by_pipe x.event)).after x.behind)

abbrev pub opening : List FromEmacs → Bool → ℕ → Cursor
opening messages ends steps = record { messages = messages; ends = ends; reached = 0; lent = None; steps = steps }

-- the journal of these messages, behind which the input ends or doesn't
abbrev pub pipe_journal : Rules → ImageState → List FromEmacs → Bool → Limits → List Entry
pipe_journal rules image messages ends limits = schedule rules limits.journal (start image) (opening messages ends limits.steps)

-- the journal takes all messages, its input has ended, and its session is quiet
pub record IsServed (rules : Rules) (image : ImageState) (messages : List FromEmacs) (j : List Entry) : Type 0 where
  pub quiet : IsTrue (is_quiet (run rules image j))
  pub ended : (run rules image j).ended ≡ true
  pub taken : arrivals j ≡ messages
