-- In a legal journal no thread has more layers than the limit.
use Rattle.std.proofs.Common.{◌≡◌, ℕ, zero, suc, ◌<◌, Bool, true, false, List, [], ◌∷◌, Option, Some, None, refl, sym, ap, ◌∙◌, subst, arith}
use Rattle.std.specs.Prelude.{IsTrue, is_some, not, slice_get, ◌&&◌}
use Rattle.std.specs.Option.{option_map_or}
use Rattle.std.proofs.lemmas.Option.{slice_get_within}
use Rattle.rpc_messages.specs.declared.from_emacs.FromEmacs.{FromEmacs}
use Rattle.term_model.specs.declared.focus.Focus.{Focus}
use Rattle.term_model.specs.Breaks.{broken_at, may_open}
use Rattle.term_model.specs.Term.{Context, split, split-plug}
use Rattle.step_model.proofs.KeepsFacts.{as_built_keeps}
use Rattle.step_model.proofs.KeepsRoom.{as_built_rooms, break_rooms, weaker}
use Rattle.step_model.proofs.RoomLemmas.{limit-least}
use Rattle.step_model.specs.Facts.{IsSound, bares}
use Rattle.step_model.specs.Image.{ImageState}
use Rattle.step_model.specs.Now.{Now}
use Rattle.step_model.specs.Rooms.{HasRoom, HasRoomBroken}
use Rattle.step_model.specs.Rules.{Rules}
use Rattle.step_model.specs.AsBuilt.{step_as_built}
use Rattle.session_model.specs.declared.event.Entry.{Entry}
use Rattle.session_model.specs.declared.event.Event.{Event}
use Rattle.session_model.specs.declared.event.Event.TheVariants.{Arrive, End, Lend, Burst, Drain}
use Rattle.session_model.specs.Journal.{happens, next, run, run_from}
use Rattle.session_model.specs.Legal.{AreLegal, IsLegalFrom, MayHappen, is_active, is_lendable, is_ready}
use Rattle.session_model.specs.Running.{after_step, bursts, interrupted, is_over, lends_thread, now_of, settles, step_of, steps, steps_once, unlent}
use Rattle.session_model.specs.World.{Thread, World, fresh, start, thread_at}
use Rattle.session_laws.specs.FactsHold.{HaveRoom}
use Rattle.session_laws.proofs.EachThread.{Each, Holds, arrived_each, becomes, of_none, set_one}
use Rattle.session_laws.proofs.Facts.{TermIsSound, interrupted_has, waiting}
use Rattle.session_laws.proofs.SomeLemmas.{none≢some}
use Rattle.session_laws.proofs.Threads.{found, get-set_same}

abbrev TermHasRoom : Thread → Type 0
TermHasRoom thread = HasRoom (split thread.term).0 (split thread.term).1

abbrev TermHasRoomBroken : Thread → Type 0
TermHasRoomBroken thread = HasRoomBroken (split thread.term).0 (split thread.term).1

-- a thread has room, one layer less while it is lent
abbrev Roomy : ℕ → Thread → Type 0
Roomy most thread = TermIsSound most thread × TermHasRoomBroken thread × (thread.lent ≡ None → TermHasRoom thread)

-- a thread has room though it may be lent
abbrev Full : ℕ → Thread → Type 0
Full most thread = TermIsSound most thread × TermHasRoom thread

unbroken : (c : Context) (f : Focus) → HasRoom c f → HasRoomBroken c f
unbroken c f h = record { layers = h.layers; redex = weaker f (bares c) h.redex }

roomy : (most : ℕ) (thread : Thread) → Full most thread → Roomy most thread
roomy most thread h = (h.0, unbroken (split thread.term).0 (split thread.term).1 h.1, λ e. h.1)

new : (most : ℕ) (mb : List (ℕ × FromEmacs)) → Roomy most (fresh mb)
new most mb = roomy most (fresh mb) (waiting most mb, record { layers = tt; redex = omega (arith, limit-least 0) })

-- ---- loans

broken_room : (most n : ℕ) (thread : Thread) → TermHasRoom thread → TermHasRoomBroken (interrupted most n thread)
broken_room most zero thread h = unbroken (split thread.term).0 (split thread.term).1 h
broken_room most (suc n) thread h =
    let s = split thread.term in
    let b = broken_at (may_open most s.0) s.0 s.1 in
    subst (λ (x : Context × Focus). HasRoomBroken x.0 x.1) (sym (split-plug b.0 b.1)) (break_rooms most s.0 s.1 h)

not_lent : (a b : Bool) (o : Option ℕ) → a && (b && not (is_some o)) ≡ true → o ≡ None
not_lent a b None e = refl
not_lent true true (Some seat) e = absurd (cc)
not_lent true false (Some seat) e = absurd (cc)
not_lent false b (Some seat) e = absurd (cc)

lendable : (w : World) (t : ℕ) (thread : Thread) → thread_at w t ≡ Some thread → IsTrue (is_ready w t) → thread.lent ≡ None
lendable w t thread e may = not_lent (not w.closed) (is_active thread) thread.lent (sym (ap (λ o. not w.closed && option_map_or is_lendable o false) e) ∙ may)

lends_roomy : (most : ℕ) (w : World) (seat t : ℕ) (o : Option Thread) → thread_at w t ≡ o → IsTrue (is_ready w t) → Each (Roomy most) w.threads → Each (Roomy most) (lends_thread most w seat t o).after.threads
lends_roomy most w seat t None e may h = h
lends_roomy most w seat t (Some thread) e may h =
    becomes (Roomy most) w.threads t thread (record (interrupted most thread.interrupts thread) { lent = Some seat }) (found w.threads t thread e)
    (λ k. (interrupted_has most thread.interrupts thread k.0, broken_room most thread.interrupts thread (k.2 (lendable w t thread e may)), λ f. absurd (none≢some (sym f)))) h

-- ---- bursts

-- every thread has room, and thread t has it though it is lent
record Stepped (most t : ℕ) (threads : List (Option Thread)) : Type 0 where
  each : Each (Roomy most) threads
  mine : Holds (Full most) (slice_get threads t)

stepped : (most : ℕ) (n : Now) (thread : Thread) → IsSound most n.context n.redex → HasRoom n.context n.redex → Full most (after_step thread n)
stepped most n thread s h =
    let e = sym (split-plug n.context n.redex) in
    (subst (λ (x : Context × Focus). IsSound most x.0 x.1) e s, subst (λ (x : Context × Focus). HasRoom x.0 x.1) e h)

settles_roomy : (most : ℕ) (w : World) (t : ℕ) (thread : Thread) (n : Now) (b : Bool) → slice_get w.threads t ≡ Some (Some thread) → Full most (after_step thread n) → Each (Roomy most) w.threads → Stepped most t (settles w t thread n b).after.threads
settles_roomy most w t thread n false e full h = record {
  each = set_one (Roomy most) w.threads t (Some (after_step thread n)) (slice_get_within w.threads t (Some thread) e) (roomy most (after_step thread n) full) h;
  mine = subst (Holds (Full most)) (sym (get-set_same w.threads t (Some (after_step thread n)) (slice_get_within w.threads t (Some thread) e))) full;
}
settles_roomy most w t thread n true e full h = record {
  each = set_one (Roomy most) w.threads t None (slice_get_within w.threads t (Some thread) e) tt h;
  mine = subst (Holds (Full most)) (sym (get-set_same w.threads t None (slice_get_within w.threads t (Some thread) e))) tt;
}

step_roomy : (rules : Rules) (w : World) (t : ℕ) (o : Option Thread) → thread_at w t ≡ o → Each (Roomy rules.built.levels) w.threads → Stepped rules.built.levels t (step_of rules w t o).after.threads
step_roomy rules w t None e h = record { each = h; mine = of_none (Full rules.built.levels) w.threads t e }
step_roomy rules w t (Some thread) e h =
    let now = now_of w t thread in
    let k : Roomy rules.built.levels thread = subst (Holds (Roomy rules.built.levels)) (found w.threads t thread e) (h t) in
    settles_roomy rules.built.levels w t thread (step_as_built rules.built rules now) (is_over t (step_as_built rules.built rules now)) (found w.threads t thread e) (stepped rules.built.levels (step_as_built rules.built rules now) thread (as_built_keeps rules.built rules now k.0) (as_built_rooms rules.built rules now k.0 k.1)) h

steps_roomy : (rules : Rules) (n t : ℕ) (w : World) → Each (Roomy rules.built.levels) w.threads → Stepped rules.built.levels t (steps rules (suc n) t w).after.threads
steps_roomy rules zero t w h = step_roomy rules w t (thread_at w t) refl h
steps_roomy rules (suc n) t w h = steps_roomy rules n t (steps_once rules w t).after (step_roomy rules w t (thread_at w t) refl h).each

unlent_roomy : (most : ℕ) (w : World) (t : ℕ) (o : Option Thread) → thread_at w t ≡ o → Stepped most t w.threads → Each (Roomy most) (unlent w t o).threads
unlent_roomy most w t None e h = h.each
unlent_roomy most w t (Some thread) e h =
    let at = found w.threads t thread e in
    set_one (Roomy most) w.threads t (Some (record thread { lent = None })) (slice_get_within w.threads t (Some thread) at) (roomy most (record thread { lent = None }) (subst (Holds (Full most)) at h.mine)) h.each

bursts_roomy : (rules : Rules) (n t : ℕ) (w : World) → 0 < n → Each (Roomy rules.built.levels) w.threads → Each (Roomy rules.built.levels) (bursts rules w t n).after.threads
bursts_roomy rules zero t w lt h = absurd (omega (arith, lt))
bursts_roomy rules (suc n) t w lt h = let v : World = (steps rules (suc n) t w).after in unlent_roomy rules.built.levels v t (thread_at v t) refl (steps_roomy rules n t w h)

-- ---- journals

happens_roomy : (rules : Rules) (w : World) (seat : ℕ) (e : Event) → MayHappen rules w seat e → Each (Roomy rules.built.levels) w.threads → Each (Roomy rules.built.levels) (happens rules w seat e).after.threads
happens_roomy rules w seat (Arrive m) may h = arrived_each (Roomy rules.built.levels) (new rules.built.levels) (λ thread i m k. k) (λ thread n k. k) rules.built w m h
happens_roomy rules w seat End may h = h
happens_roomy rules w seat (Lend t) may h = lends_roomy rules.built.levels w seat t (thread_at w t) refl may h
happens_roomy rules w seat (Burst t n) may h = bursts_roomy rules n t w may.1 h
happens_roomy rules w seat (Drain k) may h = h

run_roomy : (rules : Rules) (j : List Entry) (w : World) → AreLegal rules w j → Each (Roomy rules.built.levels) w.threads → Each (Roomy rules.built.levels) (run_from rules w j).after.threads
run_roomy rules [] w legal h = h
run_roomy rules (e ∷ j) w legal h = run_roomy rules j (next rules w e).after legal.1 (happens_roomy rules w e.seat e.event legal.0 h)

start_roomy : (most : ℕ) (image : ImageState) → Each (Roomy most) (start image).threads
start_roomy most image zero = tt
start_roomy most image (suc zero) = new most []
start_roomy most image (suc (suc t)) = tt

pub have_room : (rules : Rules) (image : ImageState) (j : List Entry) → IsLegalFrom rules image j → HaveRoom rules image j
have_room rules image j legal = record {
  not_lent = λ t thread e none. (mine t thread e).2 none;
  lent = λ t thread e. (mine t thread e).1;
}
  where
    mine : (t : ℕ) (thread : Thread) → thread_at (run rules image j) t ≡ Some thread → Roomy rules.built.levels thread
    mine t thread e = subst (Holds (Roomy rules.built.levels)) (found (run rules image j).threads t thread e) (run_roomy rules j (start image) legal (start_roomy rules.built.levels image) t)
