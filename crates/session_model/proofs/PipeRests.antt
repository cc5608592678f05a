-- Where a piped session stops for no limit, its input has ended, it has taken all messages, and it is quiet.
use Rattle.std.proofs.Common.{◌≡◌, ℕ, zero, suc, ◌+◌, ◌-◌, ◌<◌, Bool, true, false, List, [], ◌∷◌, ◌++◌, length, Option, Some, None, refl, sym, ap, ◌∙◌, subst, arith}
use Rattle.std.specs.Prelude.{if◌then◌else◌, ◌&&◌, ◌||◌, not, min, find, is_some, IsTrue, slice_get}
use Rattle.std.specs.Option.{option_map_or}
use Rattle.std.proofs.lemmas.Option.{none-some}
use Rattle.rpc_messages.specs.declared.from_emacs.FromEmacs.{FromEmacs}
use Rattle.step_model.specs.Image.{ImageState}
use Rattle.step_model.specs.Rules.{Rules}
use Rattle.session_model.specs.declared.event.Entry.{Entry}
use Rattle.session_model.specs.declared.event.Event.TheVariants.{End}
use Rattle.session_model.specs.declared.limits.Limits.{Limits}
use Rattle.session_model.specs.Journal.{arrived, arrivals, next, run, run_from, steps_of, steps_made}
use Rattle.session_model.specs.Legal.{max_burst, is_active, is_lent, is_lendable, is_ready, is_idle, are_idle, is_quiet}
use Rattle.session_model.specs.Pipe.{Cursor, Turn, turn_to, burst_length, numbers, next_ready, feeds, picks, runs, with_place, turns, turn, by_pipe, from_turn, schedule, opening, pipe_journal, IsServed}
use Rattle.session_model.specs.World.{Thread, World, start, thread_in, thread_at}
use Rattle.session_model.proofs.Loans.{IsFree, NoneLent, arrived_free, lends_free, bursts_free}
use Rattle.session_model.proofs.PipeArrivals.{TakesNext, turns_next}

-- ---- nobody is ready

module _ {X : Type 0} (p : X → Bool) where
  fails_if : (b : Bool) (x : X) (rest : Option X) → (if b then Some x else rest) ≡ None → (b ≡ false) × (rest ≡ None)
  fails_if true x rest e = absurd (none-some x (sym e))
  fails_if false x rest e = (refl, e)

  -- of a list in which nothing is found, each item fails the test
  none_passes_first : (x : X) (xs : List X) → find p (x ∷ xs) ≡ None → p x ≡ false
  none_passes_first x xs e = (fails_if (p x) x (find p xs) e).0

  none_passes_rest : (x : X) (xs : List X) → find p (x ∷ xs) ≡ None → find p xs ≡ None
  none_passes_rest x xs e = (fails_if (p x) x (find p xs) e).1

  none_passes_behind : (xs ys : List X) → find p (xs ++ ys) ≡ None → find p ys ≡ None
  none_passes_behind [] ys e = e
  none_passes_behind (x ∷ xs) ys e = none_passes_behind xs ys (none_passes_rest x (xs ++ ys) e)

-- a thread that isn't lent and isn't ready is idle
idle_thread : (active lent : Bool) → lent ≡ false → (active && not lent) ≡ false → not (active || lent) ≡ true
idle_thread true true e h = absurd (grind (arith, e))
idle_thread true false e h = absurd (grind (arith, h))
idle_thread false true e h = absurd (grind (arith, e))
idle_thread false false e h = refl

is_idle_then : (x : Option Thread) → IsFree x → option_map_or is_lendable x false ≡ false → IsTrue (is_idle x)
is_idle_then None free h = refl
is_idle_then (Some thread) free h = idle_thread (is_active thread) (is_lent thread) (ap (λ o. is_some o) free) h

both : (a b : Bool) → IsTrue a → IsTrue b → IsTrue (a && b)
both true b h g = g
both false b h g = h

open_then : (closed b : Bool) → closed ≡ false → (not closed && b) ≡ false → b ≡ false
open_then true b e h = absurd (grind (arith, e))
open_then false b e h = h

plus_zero : (t : ℕ) → t ≡ t + 0
plus_zero t = omega arith

shifted : (t i : ℕ) → t + suc i ≡ t + 1 + i
shifted t i = omega arith

-- from this number on all threads are idle
idle_from : (w : World) (t : ℕ) (xs : List (Option Thread)) → w.closed ≡ false → ((i : ℕ) → slice_get xs i ≡ slice_get w.threads (t + i)) → NoneLent None w.threads
    → find (is_ready w) (numbers (length xs) t) ≡ None → IsTrue (are_idle xs)
idle_from w t [] closed at free none = refl
idle_from w t (x ∷ xs) closed at free none =
    let first : is_ready w t ≡ false = none_passes_first (is_ready w) t (numbers (length xs) (t + 1)) none in
    let is : thread_at w t ≡ x = ap (λ n. thread_in w.threads n) (plus_zero t) ∙ ap (λ o. option_map_or (λ thread. thread) o None) (sym (at 0)) in
    both (is_idle x) (are_idle xs)
    (is_idle_then x (subst IsFree is (free t (λ e. none-some t e))) (ap (λ y. option_map_or is_lendable y false) (sym is) ∙ open_then w.closed (option_map_or is_lendable (thread_at w t) false) closed first))
    (idle_from w (t + 1) xs closed (λ i. at (suc i) ∙ ap (slice_get w.threads) (shifted t i)) free (none_passes_rest (is_ready w) t (numbers (length xs) (t + 1)) none))

-- a session in which nobody is lent or ready is quiet
pub quiet_when : (w : World) → w.closed ≡ false → NoneLent None w.threads → (reached : ℕ) → next_ready w reached ≡ None → IsTrue (is_quiet w)
quiet_when w closed free reached none =
    idle_from w 0 w.threads closed (λ i. ap (slice_get w.threads) (grind arith)) free
    (none_passes_behind (is_ready w) (numbers (length w.threads - (reached + 1)) (reached + 1)) (numbers (length w.threads) 0) none)

-- ---- a turn keeps what the schedule knows

-- the steps that are left, and whether the input ends
record Continues (c : Cursor) (x : Turn) : Type 0 where
  steps : x.behind.steps ≡ c.steps - steps_of x.event
  ends : x.behind.ends ≡ c.ends

abbrev GoesOn : Rules → World → Cursor → Option Turn → Type 0
GoesOn rules w c None = Unit {0}
GoesOn rules w c (Some x) = Continues c x × NoneLent x.behind.lent (next rules w (by_pipe x.event)).after.threads

same_steps : (n : ℕ) → n ≡ n - 0
same_steps n = omega arith

feeds_goes_on : (rules : Rules) (w : World) (c : Cursor) (ms : List FromEmacs) → NoneLent None w.threads → GoesOn rules w c (feeds w c ms)
feeds_goes_on rules w c (m ∷ ms) free = (record { steps = same_steps c.steps; ends = refl }, arrived_free None rules.built w m free)
feeds_goes_on rules w c [] free = end_if (c.ends && not w.ended)
  where
    end_if : (b : Bool) → GoesOn rules w c (if b then Some (record { event = End; behind = record c { messages = []; reached = 0; lent = None } }) else None)
    end_if true = (record { steps = same_steps c.steps; ends = refl }, free)
    end_if false = tt

picks_goes_on : (rules : Rules) (w : World) (c : Cursor) (o : Option ℕ) (steps : ℕ) → NoneLent None w.threads → GoesOn rules w c (picks w c o steps)
picks_goes_on rules w c None steps free = feeds_goes_on rules w c c.messages free
picks_goes_on rules w c (Some t) zero free = tt
picks_goes_on rules w c (Some t) (suc steps) free = (record { steps = same_steps c.steps; ends = refl }, lends_free rules.built.levels w 0 t (thread_at w t) free)

runs_goes_on : (rules : Rules) (w : World) (c : Cursor) (o : Option ℕ) → NoneLent o w.threads → GoesOn rules w c (runs rules w c o)
runs_goes_on rules w c None free = picks_goes_on rules w c (next_ready w c.reached) c.steps free
runs_goes_on rules w c (Some t) free = (record { steps = refl; ends = refl }, bursts_free rules w t (burst_length rules (min max_burst c.steps) t w) free)

with_place_goes_on : (rules : Rules) (w : World) (c : Cursor) (places : ℕ) (o : Option Turn) → GoesOn rules w c o → GoesOn rules w c (with_place places o)
with_place_goes_on rules w c zero o h = tt
with_place_goes_on rules w c (suc places) o h = h

unless_goes_on : (rules : Rules) (w : World) (c : Cursor) (b : Bool) (o : Option Turn) → GoesOn rules w c o → GoesOn rules w c (if b then None else o)
unless_goes_on rules w c true o h = tt
unless_goes_on rules w c false o h = h

turns_goes_on : (rules : Rules) (places : ℕ) (w : World) (c : Cursor) (k : ℕ) → NoneLent c.lent w.threads → GoesOn rules w c (turns rules places w c k)
turns_goes_on rules places w c (suc k) free = (record { steps = same_steps c.steps; ends = refl }, free)
turns_goes_on rules places w c zero free =
    unless_goes_on rules w c w.closed (with_place places (runs rules w c c.lent)) (with_place_goes_on rules w c places (runs rules w c c.lent) (runs_goes_on rules w c c.lent free))

-- ---- where nothing comes next

-- the session is quiet, and its input is at its end
pub record Rests (w : World) (c : Cursor) : Type 0 where
  pub quiet : IsTrue (is_quiet w)
  pub taken : c.messages ≡ []
  pub ended : c.ends ≡ true → w.ended ≡ true

not_some : {A : Type 0} (x : A) → Some x ≡ None → ⊥
not_some x e = none-some x (sym e)

feeds_rests : (w : World) (c : Cursor) (ms : List FromEmacs) → c.messages ≡ ms → IsTrue (is_quiet w) → feeds w c ms ≡ None → Rests w c
feeds_rests w c (m ∷ ms) e quiet none = absurd (not_some _ none)
feeds_rests w c [] e quiet none = record { quiet = quiet; taken = e; ended = λ ends. ended_if (c.ends && not w.ended) refl none ends }
  where
    has_ended : (ends ended : Bool) → (ends && not ended) ≡ false → ends ≡ true → ended ≡ true
    has_ended true true h e = refl
    has_ended true false h e = absurd (grind (arith, h))
    has_ended false ended h e = absurd (grind (arith, e))

    ended_if : (b : Bool) → (c.ends && not w.ended) ≡ b → (if b then turn_to End (record c { messages = []; reached = 0; lent = None }) else None) ≡ None → c.ends ≡ true → w.ended ≡ true
    ended_if true is none ends = absurd (not_some _ none)
    ended_if false is none ends = has_ended c.ends w.ended is ends

picks_rests : (w : World) (c : Cursor) (o : Option ℕ) (steps : ℕ) → c.steps ≡ steps → 0 < c.steps → w.closed ≡ false → NoneLent None w.threads → next_ready w c.reached ≡ o → picks w c o steps ≡ None → Rests w c
picks_rests w c None steps left some closed free found none = feeds_rests w c c.messages refl (quiet_when w closed free c.reached found) none
picks_rests w c (Some t) zero left some closed free found none = absurd (omega (arith, left, some))
picks_rests w c (Some t) (suc steps) left some closed free found none = absurd (not_some _ none)

runs_rests : (rules : Rules) (w : World) (c : Cursor) (o : Option ℕ) → c.lent ≡ o → 0 < c.steps → w.closed ≡ false → NoneLent c.lent w.threads → runs rules w c o ≡ None → Rests w c
runs_rests rules w c None is some closed free none =
    picks_rests w c (next_ready w c.reached) c.steps refl some closed (subst (λ o. NoneLent o w.threads) is free) refl none
runs_rests rules w c (Some t) is some closed free none = absurd (not_some _ none)

turns_rests : (rules : Rules) (places : ℕ) (w : World) (c : Cursor) (k : ℕ) → 0 < places → 0 < c.steps → w.closed ≡ false → NoneLent c.lent w.threads → turns rules places w c k ≡ None → Rests w c
turns_rests rules places w c (suc k) room some closed free none = absurd (not_some _ none)
turns_rests rules places w c zero room some closed free none = open_case w.closed closed none
  where
    with_room : (places : ℕ) → 0 < places → with_place places (runs rules w c c.lent) ≡ None → Rests w c
    with_room zero room none = absurd (omega (arith, room))
    with_room (suc places) room none = runs_rests rules w c c.lent refl some closed free none

    open_case : (b : Bool) → b ≡ false → (if b then None else with_place places (runs rules w c c.lent)) ≡ None → Rests w c
    open_case true e none = absurd (grind (arith, e))
    open_case false e none = with_room places room none

-- ---- the journal

-- where the schedule stops, with room and steps left and the session open
record Whole (rules : Rules) (w : World) (c : Cursor) (j : List Entry) : Type 0 where
  quiet : IsTrue (is_quiet (run_from rules w j).after)
  ended : c.ends ≡ true → (run_from rules w j).after.ended ≡ true
  taken : arrivals j ≡ c.messages

abbrev IsWhole : Rules → ℕ → World → Cursor → List Entry → Type 0
IsWhole rules places w c j =
    (run_from rules w j).after.closed ≡ false → length j + 1 < places → steps_made j < c.steps → Whole rules w c j

less_room : (n p : ℕ) → suc n + 1 < suc p → n + 1 < p
less_room n p h = omega arith

some_room : (p : ℕ) → 0 + 1 < suc p → 0 < p
some_room p h = omega arith

less_steps : (a b left behind : ℕ) → behind ≡ left - a → a + b < left → b < behind
less_steps a b left behind e h = omega (arith, e, h)

after_whole : (rules : Rules) (places : ℕ) (w : World) (c : Cursor) (o : Option Turn) (further : Turn → List Entry)
    → GoesOn rules w c o → TakesNext c o → (w.closed ≡ false → 0 < places → 0 < c.steps → o ≡ None → Rests w c)
    → ((x : Turn) → NoneLent x.behind.lent (next rules w (by_pipe x.event)).after.threads → IsWhole rules places (next rules w (by_pipe x.event)).after x.behind (further x))
    → IsWhole rules (suc places) w c (from_turn o (λ x. by_pipe x.event ∷ further x))
after_whole rules places w c None further on takes rests later closed room steps =
    let r : Rests w c = rests closed (some_room places room) steps refl in
    record { quiet = r.quiet; ended = r.ended; taken = sym r.taken }
after_whole rules places w c (Some x) further on takes rests later closed room steps =
    let r : Whole rules (next rules w (by_pipe x.event)).after x.behind (further x)
    = later x on.1 closed (less_room (length (further x)) places room) (less_steps (steps_of x.event) (steps_made (further x)) c.steps x.behind.steps on.0.steps steps) in
    record {
      quiet = r.quiet;
      ended = λ ends. r.ended (on.0.ends ∙ ends);
      taken = ap (arrived x.event) r.taken ∙ takes;
    }

schedule_whole : (rules : Rules) (places : ℕ) (w : World) (c : Cursor) → NoneLent c.lent w.threads → IsWhole rules places w c (schedule rules places w c)
schedule_whole rules zero w c free closed room steps = absurd (omega (arith, room))
schedule_whole rules (suc places) w c free closed room steps =
    after_whole rules places w c (turn rules places w c) (λ x. schedule rules places (next rules w (by_pipe x.event)).after x.behind)
    (turns_goes_on rules places w c (length w.undrained) free)
    (turns_next rules places w c (length w.undrained))
    (λ open_now room_left some none. turns_rests rules places w c (length w.undrained) room_left some open_now free none)
    (λ x lent. schedule_whole rules places (next rules w (by_pipe x.event)).after x.behind lent)
    closed room steps

free_at_first : (image : ImageState) → NoneLent None (start image).threads
free_at_first image zero ne = tt
free_at_first image (suc zero) ne = refl
free_at_first image (suc (suc u)) ne = tt

pub pipe_rests : (rules : Rules) (image : ImageState) (messages : List FromEmacs) (limits : Limits)
    → (run rules image (pipe_journal rules image messages true limits)).closed ≡ false
    → length (pipe_journal rules image messages true limits) + 1 < limits.journal
    → steps_made (pipe_journal rules image messages true limits) < limits.steps
    → IsServed rules image messages (pipe_journal rules image messages true limits)
pipe_rests rules image messages limits closed room steps =
    let r : Whole rules (start image) (opening messages true limits.steps) (pipe_journal rules image messages true limits)
    = schedule_whole rules limits.journal (start image) (opening messages true limits.steps) (free_at_first image) closed room steps in
    record { quiet = r.quiet; ended = r.ended refl; taken = r.taken }
