-- A fact of terms that each step and each break keeps holds of every thread after every journal.
use Rattle.std.proofs.Common.{◌≡◌, ℕ, zero, suc, Bool, true, false, List, [], ◌∷◌, ◌++◌, length, Option, Some, None, refl, sym, subst, arith}
use Rattle.std.specs.Prelude.{slice_get}
use Rattle.std.proofs.lemmas.Option.{slice_get_within}
use Rattle.rpc_messages.specs.declared.from_emacs.FromEmacs.{FromEmacs}
use Rattle.term_model.specs.declared.focus.Focus.{Focus}
use Rattle.term_model.specs.Breaks.{broken_at, may_open}
use Rattle.term_model.specs.Term.{At, Context, plug, split, split-plug}
use Rattle.step_model.proofs.KeepsFacts.{as_built_keeps, break_keeps}
use Rattle.step_model.proofs.KeepsOrder.{path_keeps}
use Rattle.step_model.specs.Built.{Built}
use Rattle.step_model.specs.Facts.{IsSound}
use Rattle.step_model.specs.Image.{ImageState}
use Rattle.step_model.specs.Marks.{Mark}
use Rattle.step_model.specs.Moves as move
use Rattle.step_model.specs.Moves.{Calm, Fits, MayCome, Move, Path, after, before, go, phase_after, stay, told}
use Rattle.step_model.specs.Now.{Mailbox, Now}
use Rattle.step_model.specs.Order.{IsOrdered}
use Rattle.step_model.specs.Rules.{Rules}
use Rattle.step_model.specs.AsBuilt.{step_as_built}
use Rattle.session_model.specs.declared.event.Entry.{Entry}
use Rattle.session_model.specs.declared.event.Event.{Event}
use Rattle.session_model.specs.declared.event.Event.TheVariants.{Arrive, End, Lend, Burst, Drain}
use Rattle.session_model.specs.Arriving.{arrives_as_built}
use Rattle.session_model.specs.Journal.{happens, next, run, run_from}
use Rattle.session_model.specs.Running.{after_step, interrupted, is_over, lends_thread, now_of, settles, step_of, steps, steps_once, unlent}
use Rattle.session_model.specs.World.{Thread, World, fresh, start, thread_at}
use Rattle.session_laws.specs.FactsHold.{FactsHold}
use Rattle.session_laws.specs.Seen.{Seen, Unborn, Alive, Gone, seen}
use Rattle.session_laws.proofs.Always.{IsLaw, always}
use Rattle.session_laws.proofs.EachThread.{Each, Holds, arrived_each, becomes, set_one}
use Rattle.session_laws.proofs.Threads.{found}

abbrev pub TermIsSound : ℕ → Thread → Type 0
TermIsSound most thread = IsSound most (split thread.term).0 (split thread.term).1

abbrev All_have : ℕ → List (Option Thread) → Type 0
All_have most threads = Each (TermIsSound most) threads

plugged : (most : ℕ) (c : Context) (f : Focus) → IsSound most c f → IsSound most (split (plug c (At f))).0 (split (plug c (At f))).1
plugged most c f h = subst (λ (s : Context × Focus). IsSound most s.0 s.1) (sym (split-plug c f)) h

pub waiting : (most : ℕ) (mb : Mailbox) → TermIsSound most (fresh mb)
waiting most mb = record { layers = tt; redex = refl }

arrives_have : (most : ℕ) (built : Built) (w : World) (m : FromEmacs) → All_have most w.threads → All_have most (arrives_as_built built w m).after.threads
arrives_have most built w m h = arrived_each (TermIsSound most) (waiting most) (λ thread i m k. k) (λ thread n k. k) built w m h

pub interrupted_has : (most n : ℕ) (thread : Thread) → TermIsSound most thread → TermIsSound most (interrupted most n thread)
interrupted_has most zero thread h = h
interrupted_has most (suc n) thread h =
    let s = split thread.term in
    let b = broken_at (may_open most s.0) s.0 s.1 in
    plugged most b.0 b.1 (break_keeps most s.0 s.1 h)

lends_have : (most : ℕ) (w : World) (seat t : ℕ) (o : Option Thread) → thread_at w t ≡ o → All_have most w.threads → All_have most (lends_thread most w seat t o).after.threads
lends_have most w seat t None e h = h
lends_have most w seat t (Some thread) e h = becomes (TermIsSound most) w.threads t thread (record (interrupted most thread.interrupts thread) { lent = Some seat }) (found w.threads t thread e) (interrupted_has most thread.interrupts thread) h

settles_have : (most : ℕ) (w : World) (t : ℕ) (thread : Thread) (n : Now) (b : Bool) → slice_get w.threads t ≡ Some (Some thread) → (TermIsSound most thread → IsSound most n.context n.redex) → All_have most w.threads → All_have most (settles w t thread n b).after.threads
settles_have most w t thread n false e keep h = becomes (TermIsSound most) w.threads t thread (after_step thread n) e (λ k. plugged most n.context n.redex (keep k)) h
settles_have most w t thread n true e keep h = set_one (TermIsSound most) w.threads t None (slice_get_within w.threads t (Some thread) e) tt h

step_has : (rules : Rules) (w : World) (t : ℕ) (o : Option Thread) → thread_at w t ≡ o → All_have rules.built.levels w.threads → All_have rules.built.levels (step_of rules w t o).after.threads
step_has rules w t None e h = h
step_has rules w t (Some thread) e h =
    let n = step_as_built rules.built rules (now_of w t thread) in
    settles_have rules.built.levels w t thread n (is_over t n) (found w.threads t thread e) (as_built_keeps rules.built rules (now_of w t thread)) h

steps_have : (rules : Rules) (n t : ℕ) (w : World) → All_have rules.built.levels w.threads → All_have rules.built.levels (steps rules n t w).after.threads
steps_have rules zero t w h = h
steps_have rules (suc n) t w h = steps_have rules n t (steps_once rules w t).after (step_has rules w t (thread_at w t) refl h)

unlent_has : (most : ℕ) (w : World) (t : ℕ) (o : Option Thread) → thread_at w t ≡ o → All_have most w.threads → All_have most (unlent w t o).threads
unlent_has most w t None e h = h
unlent_has most w t (Some thread) e h = becomes (TermIsSound most) w.threads t thread (record thread { lent = None }) (found w.threads t thread e) (λ k. k) h

happens_has : (rules : Rules) (w : World) (seat : ℕ) (e : Event) → All_have rules.built.levels w.threads → All_have rules.built.levels (happens rules w seat e).after.threads
happens_has rules w seat (Arrive m) h = arrives_have rules.built.levels rules.built w m h
happens_has rules w seat End h = h
happens_has rules w seat (Lend t) h = lends_have rules.built.levels w seat t (thread_at w t) refl h
happens_has rules w seat (Burst t n) h =
    let v : World = (steps rules n t w).after in unlent_has rules.built.levels v t (thread_at v t) refl (steps_have rules n t w h)
happens_has rules w seat (Drain k) h = h

run_has : (rules : Rules) (j : List Entry) (w : World) → All_have rules.built.levels w.threads → All_have rules.built.levels (run_from rules w j).after.threads
run_has rules [] w h = h
run_has rules (e ∷ j) w h = run_has rules j (next rules w e).after (happens_has rules w e.seat e.event h)

start_has : (most : ℕ) (image : ImageState) → All_have most (start image).threads
start_has most image zero = tt
start_has most image (suc zero) = waiting most []
start_has most image (suc (suc t)) = tt

-- ---- marks

abbrev SeenIsOrdered : Seen → Type 0
SeenIsOrdered (Alive s) = IsOrdered s
SeenIsOrdered Unborn = Unit {0}
SeenIsOrdered Gone = Unit {0}

may_come : (m : Move) → MayCome m Calm
may_come (move.Protects k) = refl
may_come (move.Turns k) = refl
may_come m = tt

moves : (t : ℕ) (m : Move) (ms : List Mark) (s : ℕ) (mb : Mailbox) → Fits t m ms s mb → IsOrdered (before m ms s mb) → IsOrdered (after m ms s mb)
moves t m ms s mb fits h =
    let p : Path t (before m ms s mb) ([] ++ told t m) (after m ms s mb) (phase_after m Calm) = go m ms s mb stay fits (may_come m) in
    path_keeps p h

opening : (mb : Mailbox) → IsOrdered (record { marks = []; serial = 0; mailbox = mb })
opening mb = record { numbered = tt; few = omega arith; serials = tt }

law : IsLaw (λ past t ls x. SeenIsOrdered x)
law = record {
  moves = λ past t ls m ms s mb fits h. moves t m ms s mb fits h;
  aside = λ past t u ls x m ms s mb fits ne g h. h;
  later = λ past e t ls x none h. h;
  routed = λ past e t ls s m is h. record { numbered = h.numbered; few = h.few; serials = h.serials };
  born = λ past e t ls m is h. opening ((length past, m) ∷ []);
  routed_aside = λ past e t u ls x m is ne h. h;
  refused = λ past e t form p thread id text ls x is h. h;
  noted = λ past t ls m x is h. h;
  broken = λ past t u ls x h. h;
  gone = λ past t ls s mb none h. tt;
  unborn = λ t. tt;
  none = λ t. tt;
  first = λ t. opening [];
}

pub facts_hold : (rules : Rules) (image : ImageState) (j : List Entry) → FactsHold rules image j
facts_hold rules image j = record {
  sound = λ t thread e. subst (Holds (TermIsSound rules.built.levels)) (found (run rules image j).threads t thread e) (run_has rules j (start image) (start_has rules.built.levels image) t);
  ordered = λ t thread e. subst (λ o. SeenIsOrdered (seen o)) (found (run rules image j).threads t thread e) (always rules (λ past t ls x. SeenIsOrdered x) law image j t);
}
