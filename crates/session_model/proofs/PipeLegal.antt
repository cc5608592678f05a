-- The journal of a piped session is legal.
use Rattle.std.proofs.Common.{◌≡◌, ℕ, zero, suc, ◌<◌, ◌≤◌, Bool, true, false, List, [], ◌∷◌, length, Option, Some, None, refl, sym, ap, ◌∙◌, subst, arith}
use Rattle.std.specs.Prelude.{if◌then◌else◌, ◌&&◌, ◌||◌, not, min, find, unwrap_or, IsTrue, nat_lt, slice_get, slice_set}
use Rattle.std.proofs.Math.Nat.{min-le_left, le-min}
use Rattle.std.proofs.lemmas.Option.{none-some, slice_get-get_or, slice_get_within}
use Rattle.std.proofs.lemmas.Bool.{not-true}
use Rattle.std.proofs.lemmas.Grind.{common_steps}
use Rattle.std.specs.Option.{option_map_or}
use Rattle.rpc_messages.specs.declared.from_emacs.FromEmacs.{FromEmacs}
use Rattle.term_model.specs.declared.focus.Focus.{Focus}
use Rattle.term_model.specs.declared.focus.Focus.TheVariants as focus
use Rattle.term_model.specs.Breaks.{may_open, broken_at, broken}
use Rattle.term_model.specs.Term.{Term, Context, split, split-plug}
use Rattle.step_model.specs.Image.{ImageState}
use Rattle.step_model.specs.Now.{Mailbox}
use Rattle.step_model.specs.Rules.{Rules}
use Rattle.session_model.specs.declared.event.Entry.{Entry}
use Rattle.session_model.specs.declared.event.Event.TheVariants.{End}
use Rattle.session_model.specs.declared.limits.Limits.{Limits}
use Rattle.session_model.specs.Journal.{next}
use Rattle.session_model.specs.Legal.{waits_in_vain, can_step, is_active, is_lent, is_lendable, is_ready, goes_on, may_step, CanMake, IsLentTo, AllMayArrive, max_burst, MayHappen, AreLegal, IsLegalFrom}
use Rattle.session_model.specs.Pipe.{Cursor, Turn, in_order, next_ready, burst_length, feeds, picks, runs, with_place, turns, turn, by_pipe, from_turn, schedule, opening, pipe_journal}
use Rattle.session_model.specs.Running.{interrupted, lends_thread, steps_once}
use Rattle.session_model.specs.World.{Thread, World, start, thread_in, thread_at}
use Rattle.session_model.proofs.Ended.{arrived_ended, lends_ended, bursts_ended}

-- ---- lists

get-set_same : {X : Type 0} (xs : List X) (i : ℕ) (y : X) → i < length xs → slice_get (slice_set xs i y) i ≡ Some y
get-set_same xs i y h = grind (arith, common_steps, slice_get-get_or (slice_set xs i y) i y)

module _ {X : Type 0} (p : X → Bool) where
  passes_if : (b : Bool) (x y : X) (rest : Option X) → p x ≡ b → (if b then Some x else rest) ≡ Some y → (rest ≡ Some y → IsTrue (p y)) → IsTrue (p y)
  passes_if true x y rest e found later = sym (ap p (ap (λ o. unwrap_or o x) found)) ∙ e
  passes_if false x y rest e found later = later found

  -- what is found passes the test
  pub find_passes : (xs : List X) (y : X) → find p xs ≡ Some y → IsTrue (p y)
  find_passes (x ∷ xs) y e = passes_if (p x) x y (find p xs) refl e (find_passes xs y)
  find_passes [] y e = absurd (none-some y e)

-- ---- a thread that was lent can make a step

-- a redex that a break leaves waits for nothing
break_goes_on : (b : Bool) (c : Context) (f : Focus) (mailbox : Mailbox) → waits_in_vain (broken_at b c f).1 mailbox ≡ false
break_goes_on true c (focus.Given o) mailbox = refl
break_goes_on true c f mailbox = refl
break_goes_on false c f mailbox = refl

broken_goes_on : (most : ℕ) (t : Term) (mailbox : Mailbox) → waits_in_vain (split (broken most t)).1 mailbox ≡ false
broken_goes_on most t mailbox =
    let s : Context × Focus = split t in
    let b : Context × Focus = broken_at (may_open most s.0) s.0 s.1 in
    ap (λ (r : Context × Focus). waits_in_vain r.1 mailbox) (split-plug b.0 b.1) ∙ break_goes_on (may_open most s.0) s.0 s.1 mailbox

-- of this thread only its loan is new
abbrev lent_to : ℕ → ℕ → Thread → Thread
lent_to most seat thread = record (interrupted most thread.interrupts thread) { lent = Some seat }

-- an active thread without interrupts could make a step before
lent_goes_on : (most : ℕ) (thread : Thread) (n : ℕ) → thread.interrupts ≡ n → IsTrue (nat_lt 0 n || can_step thread) → IsTrue (can_step (record (interrupted most n thread) { lent = Some 0 }))
lent_goes_on most thread zero e h = h
lent_goes_on most thread (suc n) e h = ap not (broken_goes_on most thread.term thread.mailbox)

and-left : (a b : Bool) → IsTrue (a && b) → IsTrue a
and-left true b h = refl
and-left false b h = h

and-right : (a b : Bool) → IsTrue (a && b) → IsTrue b
and-right true b h = h
and-right false b h = absurd (grind (arith, h))

-- ---- what holds while the schedule goes on

-- a message comes only before the end
abbrev IsOpenFor : List FromEmacs → Bool → Type 0
IsOpenFor [] ended = Unit {0}
IsOpenFor (m ∷ ms) ended = ended ≡ false

-- the thread that is lent is the pipe's, and can make a step while steps are left
abbrev IsRunnable : Bool → List (Option Thread) → Option ℕ → ℕ → Type 0
IsRunnable closed threads None steps = Unit {0}
IsRunnable closed threads (Some t) steps = IsLentTo 0 (thread_in threads t) × IsTrue (goes_on closed (thread_in threads t)) × (0 < steps)

record Stands (w : World) (c : Cursor) : Type 0 where
  may_arrive : AllMayArrive c.messages
  is_open : IsOpenFor c.messages w.ended
  is_runnable : IsRunnable w.closed w.threads c.lent c.steps

-- a turn may happen, and leaves a world in which the schedule goes on
abbrev Follows : Rules → World → Option Turn → Type 0
Follows rules w None = Unit {0}
Follows rules w (Some x) = MayHappen rules w 0 x.event × Stands (next rules w (by_pipe x.event)).after x.behind

-- ---- bursts

can_if : (rules : Rules) (t m : ℕ) (w : World) (b : Bool) → may_step w t ≡ b → CanMake rules m t (steps_once rules w t).after → CanMake rules (if b then suc m else 0) t w
can_if rules t m w true e h = (e, h)
can_if rules t m w false e h = tt

burst_can : (rules : Rules) (most t : ℕ) (w : World) → CanMake rules (burst_length rules most t w) t w
burst_can rules zero t w = tt
burst_can rules (suc most) t w =
    can_if rules t (burst_length rules most t (steps_once rules w t).after) w (may_step w t) refl (burst_can rules most t (steps_once rules w t).after)

most_if : (b : Bool) (n most : ℕ) → n ≤ most → (if b then suc n else 0) ≤ suc most
most_if true n most h = omega arith
most_if false n most h = omega arith

pub burst_most : (rules : Rules) (most t : ℕ) (w : World) → burst_length rules most t w ≤ most
burst_most rules zero t w = omega arith
burst_most rules (suc most) t w = most_if (may_step w t) (burst_length rules most t (steps_once rules w t).after) most (burst_most rules most t (steps_once rules w t).after)

some_if : (b : Bool) (n : ℕ) → IsTrue b → 0 < (if b then suc n else 0)
some_if true n h = omega arith
some_if false n h = absurd (grind (arith, h))

burst_some : (rules : Rules) (most t : ℕ) (w : World) → 0 < most → IsTrue (may_step w t) → 0 < burst_length rules most t w
burst_some rules zero t w h g = absurd (omega (arith, h))
burst_some rules (suc most) t w h g = some_if (may_step w t) (burst_length rules most t (steps_once rules w t).after) g

least_some : (a b : ℕ) → 0 < a → 0 < b → 0 < min a b
least_some a b h g = le-min h g

-- the burst of the thread that is lent
runs_follow : (rules : Rules) (w : World) (c : Cursor) (t : ℕ) → Stands w c → IsRunnable w.closed w.threads (Some t) c.steps → Follows rules w (runs rules w c (Some t))
runs_follow rules w c t h g =
    let most : ℕ = min max_burst c.steps in
    let n : ℕ = burst_length rules most t w in (
      (g.0, burst_some rules most t w (least_some max_burst c.steps (omega arith) g.2) g.1, grind (arith, burst_most rules most t w, min-le_left max_burst c.steps), burst_can rules most t w),
      record {
        may_arrive = h.may_arrive;
        is_open = subst (IsOpenFor c.messages) (sym (bursts_ended rules w t n)) h.is_open;
        is_runnable = tt;
      },
    )

-- the next message, or the end
feeds_follow : (rules : Rules) (w : World) (c : Cursor) (ms : List FromEmacs) → w.closed ≡ false → AllMayArrive ms → IsOpenFor ms w.ended → Follows rules w (feeds w c ms)
feeds_follow rules w c (m ∷ ms) closed may not_ended =
    (((not_ended, closed), may.0), record { may_arrive = may.1; is_open = still_open ms (arrived_ended rules.built w m ∙ not_ended); is_runnable = tt })
  where
    still_open : {ended : Bool} (rest : List FromEmacs) → ended ≡ false → IsOpenFor rest ended
    still_open [] e = tt
    still_open (_ ∷ _) e = e
feeds_follow rules w c [] closed may not_ended = end_if (c.ends && not w.ended) (λ e. not-true w.ended (and-right c.ends (not w.ended) e))
  where
    end_if : (b : Bool) → (b ≡ true → w.ended ≡ false) → Follows rules w (if b then Some (record { event = End; behind = record c { messages = []; reached = 0; lent = None } }) else None)
    end_if true f = ((f refl, closed), record { may_arrive = tt; is_open = tt; is_runnable = tt })
    end_if false f = tt

-- a thread that is ready, once it was lent
is_lent_then : (most : ℕ) (w : World) (t : ℕ) (o : Option Thread) → thread_at w t ≡ o → w.closed ≡ false → IsTrue (option_map_or is_lendable o false)
    → IsLentTo 0 (thread_in (lends_thread most w 0 t o).after.threads t) × IsTrue (goes_on w.closed (thread_in (lends_thread most w 0 t o).after.threads t))
is_lent_then most w t None e closed h = absurd (grind (arith, h))
is_lent_then most w t (Some thread) e closed h =
    let new : Option Thread = Some (lent_to most 0 thread) in
    let at : thread_in (slice_set w.threads t new) t ≡ new = ap (λ o. option_map_or (λ x. x) o None) (get-set_same w.threads t new (within w.threads t thread e)) in
    subst (λ o. IsLentTo 0 o × IsTrue (goes_on w.closed o)) (sym at)
    (refl, subst (λ b. IsTrue (not b && can_step (lent_to most 0 thread))) (sym closed) (lent_goes_on most thread thread.interrupts refl (and-left (is_active thread) (not (is_lent thread)) h)))
  where
    within : (threads : List (Option Thread)) (t : ℕ) (thread : Thread) → thread_in threads t ≡ Some thread → t < length threads
    within threads t thread e = inside (slice_get threads t) refl e
      where
        inside : (o : Option (Option Thread)) → slice_get threads t ≡ o → option_map_or (λ x. x) o None ≡ Some thread → t < length threads
        inside None is e = absurd (none-some thread e)
        inside (Some x) is e = slice_get_within threads t x is

-- a ready thread is lent
picks_follow : (rules : Rules) (w : World) (c : Cursor) (o : Option ℕ) (steps : ℕ) → c.steps ≡ steps → next_ready w c.reached ≡ o → w.closed ≡ false → Stands w c
    → Follows rules w (picks w c o steps)
picks_follow rules w c None steps left found closed h = feeds_follow rules w c c.messages closed h.may_arrive h.is_open
picks_follow rules w c (Some t) zero left found closed h = tt
picks_follow rules w c (Some t) (suc steps) left found closed h =
    let ready : IsTrue (is_ready w t) = find_passes (is_ready w) (in_order c.reached (length w.threads)) t found in
    let lent : IsLentTo 0 (thread_in (lends_thread rules.built.levels w 0 t (thread_at w t)).after.threads t) × IsTrue (goes_on w.closed (thread_in (lends_thread rules.built.levels w 0 t (thread_at w t)).after.threads t))
    = is_lent_then rules.built.levels w t (thread_at w t) refl closed (and-right (not w.closed) (option_map_or is_lendable (thread_at w t) false) ready) in (
      ready,
      record {
        may_arrive = h.may_arrive;
        is_open = subst (IsOpenFor c.messages) (sym (lends_ended rules.built.levels w 0 t (thread_at w t))) h.is_open;
        is_runnable = (lent.0, subst (λ b. IsTrue (goes_on b (thread_in (lends_thread rules.built.levels w 0 t (thread_at w t)).after.threads t))) (sym (lends_closed rules.built.levels w 0 t (thread_at w t))) lent.1, some_left c.steps steps left);
      },
    )
  where
    some_left : (n m : ℕ) → n ≡ suc m → 0 < n
    some_left n m e = omega (arith, e)

    lends_closed : (most : ℕ) (w : World) (seat t : ℕ) (o : Option Thread) → (lends_thread most w seat t o).after.closed ≡ w.closed
    lends_closed most w seat t (Some thread) = refl
    lends_closed most w seat t None = refl

any_follow : (rules : Rules) (w : World) (c : Cursor) (o : Option ℕ) → c.lent ≡ o → w.closed ≡ false → Stands w c → Follows rules w (runs rules w c o)
any_follow rules w c None e closed h = picks_follow rules w c (next_ready w c.reached) c.steps refl refl closed h
any_follow rules w c (Some t) e closed h = runs_follow rules w c t h (subst (λ o. IsRunnable w.closed w.threads o c.steps) e h.is_runnable)

with_place_follow : (rules : Rules) (w : World) (places : ℕ) (o : Option Turn) → Follows rules w o → Follows rules w (with_place places o)
with_place_follow rules w zero o h = tt
with_place_follow rules w (suc places) o h = h

open_follow : (rules : Rules) (w : World) (b : Bool) (o : Option Turn) → w.closed ≡ b → (w.closed ≡ false → Follows rules w o) → Follows rules w (if b then None else o)
open_follow rules w true o e h = tt
open_follow rules w false o e h = h e

turns_follow : (rules : Rules) (places : ℕ) (w : World) (c : Cursor) (k : ℕ) → length w.undrained ≡ k → Stands w c → Follows rules w (turns rules places w c k)
turns_follow rules places w c (suc k) e h =
    ((omega arith, sym e), record { may_arrive = h.may_arrive; is_open = h.is_open; is_runnable = h.is_runnable })
turns_follow rules places w c zero e h =
    open_follow rules w w.closed (with_place places (runs rules w c c.lent)) refl
    (λ closed. with_place_follow rules w places (runs rules w c c.lent) (any_follow rules w c c.lent refl closed h))

-- ---- the journal

after_legal : (rules : Rules) (w : World) (o : Option Turn) (further : Turn → List Entry) → Follows rules w o
    → ((x : Turn) → Stands (next rules w (by_pipe x.event)).after x.behind → AreLegal rules (next rules w (by_pipe x.event)).after (further x))
    → AreLegal rules w (from_turn o (λ x. by_pipe x.event ∷ further x))
after_legal rules w None further h later = tt
after_legal rules w (Some x) further h later = (h.0, later x h.1)

schedule_legal : (rules : Rules) (places : ℕ) (w : World) (c : Cursor) → Stands w c → AreLegal rules w (schedule rules places w c)
schedule_legal rules zero w c h = tt
schedule_legal rules (suc places) w c h =
    after_legal rules w (turn rules places w c) (λ x. schedule rules places (next rules w (by_pipe x.event)).after x.behind)
    (turns_follow rules places w c (length w.undrained) refl h)
    (λ x stands. schedule_legal rules places (next rules w (by_pipe x.event)).after x.behind stands)

open_at_first : (messages : List FromEmacs) → IsOpenFor messages false
open_at_first [] = tt
open_at_first (m ∷ ms) = refl

pub pipe_is_legal : (rules : Rules) (image : ImageState) (messages : List FromEmacs) (ends : Bool) (limits : Limits) → AllMayArrive messages
    → IsLegalFrom rules image (pipe_journal rules image messages ends limits)
pipe_is_legal rules image messages ends limits h =
    schedule_legal rules limits.journal (start image) (opening messages ends limits.steps)
    (record { may_arrive = h; is_open = open_at_first messages; is_runnable = tt })
