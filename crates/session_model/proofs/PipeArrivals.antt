-- A piped session takes its messages in order, and none that isn't there.
use Rattle.std.proofs.Common.{◌≡◌, ℕ, zero, suc, Bool, true, false, List, [], ◌∷◌, ◌++◌, length, Option, Some, None, refl, sym, ap, ◌∙◌}
use Rattle.std.specs.Prelude.{if◌then◌else◌, ◌&&◌, not}
use Rattle.rpc_messages.specs.declared.from_emacs.FromEmacs.{FromEmacs}
use Rattle.step_model.specs.Image.{ImageState}
use Rattle.step_model.specs.Rules.{Rules}
use Rattle.session_model.specs.declared.event.Entry.{Entry}
use Rattle.session_model.specs.declared.event.Event.{Event}
use Rattle.session_model.specs.declared.event.Event.TheVariants.{Arrive, End, Lend, Burst, Drain}
use Rattle.session_model.specs.declared.limits.Limits.{Limits}
use Rattle.session_model.specs.Journal.{arrived, arrivals, next}
use Rattle.session_model.specs.Pipe.{Cursor, Turn, feeds, picks, runs, next_ready, with_place, turns, turn, by_pipe, from_turn, schedule, opening, pipe_journal}
use Rattle.session_model.specs.World.{World, start}

-- a turn takes the next message, if any
abbrev pub TakesNext : Cursor → Option Turn → Type 0
TakesNext c None = Unit {0}
TakesNext c (Some x) = arrived x.event x.behind.messages ≡ c.messages

by_end : (w : World) (c : Cursor) (b : Bool) → c.messages ≡ [] → TakesNext c (if b then Some (record { event = End; behind = record c { messages = []; reached = 0; lent = None } }) else None)
by_end w c true e = sym e
by_end w c false e = tt

feeds_next : (w : World) (c : Cursor) (ms : List FromEmacs) → c.messages ≡ ms → TakesNext c (feeds w c ms)
feeds_next w c (m ∷ ms) e = sym e
feeds_next w c [] e = by_end w c (c.ends && not w.ended) e

picks_next : (w : World) (c : Cursor) (o : Option ℕ) (steps : ℕ) → TakesNext c (picks w c o steps)
picks_next w c None steps = feeds_next w c c.messages refl
picks_next w c (Some t) zero = tt
picks_next w c (Some t) (suc steps) = refl

runs_next : (rules : Rules) (w : World) (c : Cursor) (o : Option ℕ) → TakesNext c (runs rules w c o)
runs_next rules w c None = picks_next w c (next_ready w c.reached) c.steps
runs_next rules w c (Some t) = refl

with_place_next : (c : Cursor) (places : ℕ) (o : Option Turn) → TakesNext c o → TakesNext c (with_place places o)
with_place_next c zero o h = tt
with_place_next c (suc places) o h = h

unless_next : (c : Cursor) (b : Bool) (o : Option Turn) → TakesNext c o → TakesNext c (if b then None else o)
unless_next c true o h = tt
unless_next c false o h = h

pub turns_next : (rules : Rules) (places : ℕ) (w : World) (c : Cursor) (k : ℕ) → TakesNext c (turns rules places w c k)
turns_next rules places w c (suc k) = refl
turns_next rules places w c zero =
    unless_next c w.closed (with_place places (runs rules w c c.lent)) (with_place_next c places (runs rules w c c.lent) (runs_next rules w c c.lent))

-- the messages begin with these
pub record BeginWith (taken messages : List FromEmacs) : Type 0 where
  pub rest : List FromEmacs
  pub is : taken ++ rest ≡ messages

arrived-append : (e : Event) (a b : List FromEmacs) → arrived e a ++ b ≡ arrived e (a ++ b)
arrived-append (Arrive m) a b = refl
arrived-append End a b = refl
arrived-append (Lend t) a b = refl
arrived-append (Burst t n) a b = refl
arrived-append (Drain k) a b = refl

after_turn : (c : Cursor) (o : Option Turn) (further : Turn → List Entry) → TakesNext c o → ((x : Turn) → BeginWith (arrivals (further x)) x.behind.messages)
    → BeginWith (arrivals (from_turn o (λ x. by_pipe x.event ∷ further x))) c.messages
after_turn c None further h later = record { rest = c.messages; is = refl }
after_turn c (Some x) further h later = record {
  rest = (later x).rest;
  is = arrived-append x.event (arrivals (further x)) (later x).rest ∙ ap (arrived x.event) (later x).is ∙ h;
}

schedule_begins : (rules : Rules) (places : ℕ) (w : World) (c : Cursor) → BeginWith (arrivals (schedule rules places w c)) c.messages
schedule_begins rules zero w c = record { rest = c.messages; is = refl }
schedule_begins rules (suc places) w c =
    after_turn c (turn rules places w c) (λ x. schedule rules places (next rules w (by_pipe x.event)).after x.behind)
    (turns_next rules places w c (length w.undrained)) (λ x. schedule_begins rules places (next rules w (by_pipe x.event)).after x.behind)

pub pipe_takes_in_order : (rules : Rules) (image : ImageState) (messages : List FromEmacs) (ends : Bool) (limits : Limits)
    → (rest : List FromEmacs) × (arrivals (pipe_journal rules image messages ends limits) ++ rest ≡ messages)
pipe_takes_in_order rules image messages ends limits =
    let b : BeginWith (arrivals (pipe_journal rules image messages ends limits)) messages = schedule_begins rules limits.journal (start image) (opening messages ends limits.steps) in
    (b.rest, b.is)
