-- A core that fits its journal fits it after each event.
use Rattle.server_rules.specs.Built.{built}
use Rattle.std.proofs.Common.{◌≡◌, ℕ, zero, suc, ◌+◌, ◌<◌, ◌≤◌, Bool, true, false, List, [], ◌∷◌, ◌++◌, length, Option, Some, None, refl, sym, ap, ◌∙◌, subst, arith, length-append, append-nil}
use Rattle.std.specs.Prelude.{◌||◌, ◌&&◌, not}
use Rattle.std.specs.Option.{option_map_or}
use Rattle.std.proofs.lemmas.List.{length-set}
use Rattle.std.proofs.lemmas.Option.{none-some, same_Some}
use Rattle.rpc_messages.specs.declared.from_emacs.FromEmacs.{FromEmacs}
use Rattle.rpc_messages.specs.declared.to_emacs.ToEmacs.{ToEmacs}
use Rattle.server_rules.specs.Rules.{rules}
use Rattle.step_model.specs.Image.{ImageState}
use Rattle.step_model.specs.Now.{Now}
use Rattle.step_model.specs.AsBuilt.{step_as_built}
use Rattle.term_model.specs.Label.{messages_in}
use Rattle.term_model.specs.Breaks.{may_open}
use Rattle.term_model.specs.Term.{split}
use Rattle.session_model.specs.declared.event.Entry.{Entry}
use Rattle.session_model.specs.declared.event.Event.{Event}
use Rattle.session_model.specs.declared.limits.Limits.{Limits}
use Rattle.session_model.specs.declared.event.Event.TheVariants.{Arrive, End, Lend, Burst, Drain}
use Rattle.session_model.specs.Arriving.{arrives_as_built}
use Rattle.session_model.specs.Journal.{next, run, run_from, steps_of, steps_made}
use Rattle.session_model.specs.Legal.{IsLentTo, is_lendable, is_ready}
use Rattle.session_model.specs.Running.{bursts, interrupted, is_over, lends, lends_thread, now_of, settles, step_of, steps, steps_once, unlent}
use Rattle.session_model.specs.World.{Thread, World, fresh, start, thread_at, thread_in}
use Rattle.swank_core.specs.Bursts.{Bursts}
use Rattle.swank_core.specs.Drains.{ends_with_drain, is_drain}
use Rattle.swank_core.specs.Live.{shown, ArePlaced, Does, IsPlaced, LiveState}
use Rattle.swank_core.specs.Session.{steps_behind}
use Rattle.swank_core.specs.Ties.{Fits, Ties}
use Rattle.swank_core.proofs.PlacedLemmas.{Arrived, arrived_arrived, bursts_placed, lends_placed, live_within, placed_later, thread_set_same}
use Rattle.swank_core.proofs.RunLemmas.{Aside, arrived_aside, broke_says_nothing, lends_aside, run_more, steps_made_more}

-- ---- the end of the input, and the steps behind it

or_false : (b : Bool) → (b || false) ≡ b
or_false true = refl
or_false false = refl

or_true : (b : Bool) → (b || true) ≡ true
or_true true = refl
or_true false = refl

settles_ended : (w : World) (t : ℕ) (thread : Thread) (n : Now) (over : Bool) → (settles w t thread n over).after.ended ≡ w.ended
settles_ended w t thread n true = refl
settles_ended w t thread n false = refl

step_ended : (w : World) (t : ℕ) (o : Option Thread) → (step_of rules w t o).after.ended ≡ w.ended
step_ended w t (Some thread) = let n : Now = step_as_built rules.built rules (now_of w t thread) in settles_ended w t thread n (is_over t n)
step_ended w t None = refl

steps_ended : (n t : ℕ) (w : World) → (steps rules n t w).after.ended ≡ w.ended
steps_ended zero t w = refl
steps_ended (suc n) t w = steps_ended n t (steps_once rules w t).after ∙ step_ended w t (thread_at w t)

unlent_ended : (w : World) (t : ℕ) (o : Option Thread) → (unlent w t o).ended ≡ w.ended
unlent_ended w t (Some thread) = refl
unlent_ended w t None = refl

bursts_ended : (w : World) (t n : ℕ) → (bursts rules w t n).after.ended ≡ w.ended
bursts_ended w t n =
    let v : World = (steps rules n t w).after in
    unlent_ended v t (thread_at v t) ∙ steps_ended n t w

abbrev pub entry : ℕ → Event → Entry
entry seat e = record { seat = seat; event = e }

-- the steps behind the end are those of the first entry and those of the others
behind_first : (w : World) (seat : ℕ) (e : Event) (j : List Entry)
    → steps_behind w.ended (entry seat e ∷ j) ≡ steps_behind w.ended (entry seat e ∷ []) + steps_behind (next rules w (entry seat e)).after.ended j
behind_first w seat (Arrive m) j =
    let e : steps_behind (w.ended || false) j ≡ steps_behind (arrives_as_built built w m).after.ended j = ap (λ b. steps_behind b j) (or_false w.ended ∙ sym (arrived_aside w m).ended) in
    omega (arith, e)
behind_first w seat End j =
    let e : steps_behind (w.ended || true) j ≡ steps_behind true j = ap (λ b. steps_behind b j) (or_true w.ended) in
    omega (arith, e)
behind_first w seat (Lend t) j =
    let e : steps_behind (w.ended || false) j ≡ steps_behind (lends built.levels w seat t).after.ended j = ap (λ b. steps_behind b j) (or_false w.ended ∙ sym (lends_aside w seat t (thread_at w t)).ended) in
    omega (arith, e)
behind_first w seat (Burst t n) j =
    let e : steps_behind (w.ended || false) j ≡ steps_behind (bursts rules w t n).after.ended j = ap (λ b. steps_behind b j) (or_false w.ended ∙ sym (bursts_ended w t n)) in
    omega (arith, e)
behind_first w seat (Drain k) j =
    let e : steps_behind (w.ended || false) j ≡ steps_behind w.ended j = ap (λ b. steps_behind b j) (or_false w.ended) in
    omega (arith, e)

behind_from : (w : World) (j : List Entry) (e : Entry) → steps_behind w.ended (j ++ e ∷ []) ≡ steps_behind w.ended j + steps_behind (run_from rules w j).after.ended (e ∷ [])
behind_from w [] e = omega arith
behind_from w (x ∷ j) e =
    let v : World = (next rules w x).after in
    omega (arith, behind_first w x.seat x.event (j ++ e ∷ []), behind_first w x.seat x.event j, behind_from v j e)

-- the steps behind the end, with one entry more
behind_more : (image : ImageState) (j : List Entry) (e : Entry) → steps_behind false (j ++ e ∷ []) ≡ steps_behind false j + steps_behind (run rules image j).ended (e ∷ [])
behind_more image j e = behind_from (start image) j e

none_behind : (b : Bool) (seat : ℕ) (e : Event) → steps_of e ≡ 0 → steps_behind b (entry seat e ∷ []) ≡ 0
none_behind true seat (Arrive m) h = refl
none_behind true seat End h = refl
none_behind true seat (Lend t) h = refl
none_behind true seat (Burst t n) h = omega (arith, h)
none_behind true seat (Drain k) h = refl
none_behind false seat e h = refl

-- ---- drains

drain_last : (w : World) (j : List Entry) (e : Entry) → is_drain e.event ≡ true → j ≡ e ∷ [] → (run_from rules w j).after.undrained ≡ []
drain_last w j e is same = ap (λ k. (run_from rules w k).after.undrained) same ∙ drained e.seat e.event is
  where
    drained : (seat : ℕ) (event : Event) → is_drain event ≡ true → (next rules w (entry seat event)).after.undrained ≡ []
    drained seat (Drain k) h = refl
    drained seat (Arrive m) h = absurd (cc)
    drained seat End h = absurd (cc)
    drained seat (Lend t) h = absurd (cc)
    drained seat (Burst t n) h = absurd (cc)

drained_from : (w : World) (j : List Entry) → ends_with_drain j ≡ true → (run_from rules w j).after.undrained ≡ []
drained_from w [] h = absurd (cc)
drained_from w (e ∷ []) h = drain_last w (e ∷ []) e h refl
drained_from w (e ∷ f ∷ j) h = drained_from (next rules w e).after (f ∷ j) h

-- after a drain nothing is undrained
pub drained_ends : (image : ImageState) (j : List Entry) → ends_with_drain j ≡ true → (run rules image j).undrained ≡ []
drained_ends image j h = drained_from (start image) j h

-- ---- one entry more

ties_more : (image : ImageState) (j new : List Entry) (e : Entry) (live : LiveState) (outs : List ToEmacs) (n k : ℕ) (ended failed : Bool) → new ≡ j ++ e ∷ []
    → Ties (next rules (run rules image j) e).after new live outs n k ended failed → Ties (run rules image new) new live outs n k ended failed
ties_more image j new e live outs n k ended failed is h =
    subst (λ w. Ties w new live outs n k ended failed) (sym (ap (run rules image) is ∙ run_more rules image j e)) h

longer : (j new : List Entry) (e : Entry) → new ≡ j ++ e ∷ [] → length new ≡ length j + 1
longer j new e is = ap length is ∙ length-append j (e ∷ [])

made : (j new : List Entry) (seat : ℕ) (e : Event) → new ≡ j ++ entry seat e ∷ [] → steps_made new ≡ steps_made j + steps_of e
made j new seat e is = ap steps_made is ∙ steps_made_more j (entry seat e)

behind : (image : ImageState) (j new : List Entry) (seat : ℕ) (e : Event) → new ≡ j ++ entry seat e ∷ [] → steps_behind false new ≡ steps_behind false j + steps_behind (run rules image j).ended (entry seat e ∷ [])
behind image j new seat e is = ap (steps_behind false) is ∙ behind_more image j (entry seat e)

pub ties_arrive : (image : ImageState) (j new : List Entry) (seat : ℕ) (m : FromEmacs) (live later : LiveState) (outs told all : List ToEmacs) (n k : ℕ) (ended failed : Bool)
    → new ≡ j ++ entry seat (Arrive m) ∷ [] → all ≡ outs ++ told → ((w : World) → w.places ≡ length j → live ≡ shown w → Does (arrives_as_built built w m) later told) → failed ≡ false
    → Ties (run rules image j) j live outs n k ended failed → Ties (run rules image new) new later all n k ended failed
ties_arrive image j new seat m live later outs told all n k ended failed is sum does whole h =
    let w : World = run rules image j in
    let a : Aside (arrives_as_built built w m) w = arrived_aside w m in
    let d : Does (arrives_as_built built w m) later told = does w (sym h.places_are) (h.live_is whole) in
    let p : Arrived w.places w.threads (arrives_as_built built w m).after.threads = arrived_arrived w m h.placed in
    ties_more image j new (entry seat (Arrive m)) later all n k ended failed is (record {
      outs_are = sum ∙ ap (λ x. x ++ told) h.outs_are ∙ ap (λ x. w.undrained ++ x) d.outs_are ∙ sym a.undrained;
      places_are = longer j new _ is ∙ ap (λ x. x + 1) (h.places_are ∙ sym a.places);
      steps_are = omega (arith, h.steps_are, made j new seat (Arrive m) is);
      after_are = omega (arith, h.after_are, behind image j new seat (Arrive m) is, none_behind w.ended seat (Arrive m) refl);
      ended_is = h.ended_is ∙ sym a.ended;
      still = a.closed ∙ h.still;
      placed = subst (λ x. ArePlaced (x + 1) (arrives_as_built built w m).after.threads) (sym a.places) p.placed;
      few = omega (arith, h.few, p.few, a.places);
      live_is = λ f. d.live;
    })

pub ties_end : (image : ImageState) (j new : List Entry) (seat : ℕ) (live : LiveState) (outs : List ToEmacs) (n k : ℕ) (ended failed : Bool) → new ≡ j ++ entry seat End ∷ []
    → Ties (run rules image j) j live outs n k ended failed → Ties (run rules image new) new live outs n k true failed
ties_end image j new seat live outs n k ended failed is h =
    let w : World = run rules image j in
    ties_more image j new (entry seat End) live outs n k true failed is (record {
      outs_are = h.outs_are;
      places_are = longer j new _ is ∙ ap (λ x. x + 1) h.places_are;
      steps_are = omega (arith, h.steps_are, made j new seat End is);
      after_are = omega (arith, h.after_are, behind image j new seat End is, none_behind w.ended seat End refl);
      ended_is = refl;
      still = h.still;
      placed = placed_later w.places (w.places + 1) w.threads (omega arith) h.placed;
      few = omega (arith, h.few);
      live_is = h.live_is;
    })

pub ties_lend : (image : ImageState) (j new : List Entry) (seat t : ℕ) (live later : LiveState) (outs : List ToEmacs) (n k : ℕ) (ended failed : Bool) → new ≡ j ++ entry seat (Lend t) ∷ []
    → ((w : World) → live ≡ shown w → later ≡ shown (lends built.levels w seat t).after) → failed ≡ false
    → Ties (run rules image j) j live outs n k ended failed → Ties (run rules image new) new later outs n k ended failed
ties_lend image j new seat t live later outs n k ended failed is does whole h =
    let w : World = run rules image j in
    let a : Aside (lends built.levels w seat t) w = lends_aside w seat t (thread_at w t) in
    let none : messages_in (lends built.levels w seat t).labels ≡ [] = lends_say_nothing w seat t (thread_at w t) in
    let p : ArePlaced w.places (lends built.levels w seat t).after.threads = lends_placed w.places w seat t (thread_at w t) refl h.placed in
    ties_more image j new (entry seat (Lend t)) later outs n k ended failed is (record {
      outs_are = h.outs_are ∙ sym (append-nil w.undrained) ∙ ap (λ x. w.undrained ++ x) (sym none) ∙ sym a.undrained;
      places_are = longer j new _ is ∙ ap (λ x. x + 1) (h.places_are ∙ sym a.places);
      steps_are = omega (arith, h.steps_are, made j new seat (Lend t) is);
      after_are = omega (arith, h.after_are, behind image j new seat (Lend t) is, none_behind w.ended seat (Lend t) refl);
      ended_is = h.ended_is ∙ sym a.ended;
      still = a.closed ∙ h.still;
      placed = subst (λ x. ArePlaced (x + 1) (lends built.levels w seat t).after.threads) (sym a.places) (placed_later w.places (w.places + 1) (lends built.levels w seat t).after.threads (omega arith) p);
      few = omega (arith, h.few, a.places, lends_length w seat t (thread_at w t));
      live_is = λ f. does w (h.live_is whole);
    })
  where
    lends_say_nothing : (w : World) (seat t : ℕ) (o : Option Thread) → messages_in (lends_thread built.levels w seat t o).labels ≡ []
    lends_say_nothing w seat t None = refl
    lends_say_nothing w seat t (Some thread) = broke_says_nothing t thread.interrupts (may_open built.levels (split thread.term).0)

    lends_length : (w : World) (seat t : ℕ) (o : Option Thread) → length (lends_thread built.levels w seat t o).after.threads ≡ length w.threads
    lends_length w seat t None = refl
    lends_length w seat t (Some thread) = length-set w.threads t _

pub ties_burst : (image : ImageState) (j new : List Entry) (seat t max m : ℕ) (live later : LiveState) (outs told all : List ToEmacs) (n k n2 k2 : ℕ) (ended failed : Bool)
    → new ≡ j ++ entry seat (Burst t m) ∷ [] → all ≡ outs ++ told → n2 ≡ n + m → k2 ≡ k + steps_behind ended (entry seat (Burst t m) ∷ [])
    → ((w : World) → w.closed ≡ false → live ≡ shown w → Bursts w max t m later told) → length later.threads ≡ length live.threads → failed ≡ false
    → Ties (run rules image j) j live outs n k ended failed → Ties (run rules image new) new later all n2 k2 ended failed
ties_burst image j new seat t max m live later outs told all n k n2 k2 ended failed is sum count count2 does long whole h =
    let w : World = run rules image j in
    let v : World = (bursts rules w t m).after in
    let b : Bursts w max t m later told = does w h.still (h.live_is whole) in
    let places : v.places ≡ w.places = ap (λ (x : World). x.places) b.world in
    let p : ArePlaced w.places v.threads = bursts_placed rules w.places w t m h.placed in
    let same : length v.threads ≡ length w.threads = ap (λ (x : World). length x.threads) b.world ∙ long ∙ ap (λ (l : LiveState). length l.threads) (h.live_is whole) in
    let after : steps_behind ended (entry seat (Burst t m) ∷ []) ≡ steps_behind w.ended (entry seat (Burst t m) ∷ []) = ap (λ x. steps_behind x (entry seat (Burst t m) ∷ [])) h.ended_is in
    ties_more image j new (entry seat (Burst t m)) later all n2 k2 ended failed is (record {
      outs_are = sum ∙ ap (λ x. x ++ told) h.outs_are ∙ sym (ap (λ (x : World). x.undrained) b.world);
      places_are = longer j new _ is ∙ ap (λ x. x + 1) (h.places_are ∙ sym places);
      steps_are = omega (arith, count, h.steps_are, made j new seat (Burst t m) is);
      after_are = omega (arith, count2, after, h.after_are, behind image j new seat (Burst t m) is);
      ended_is = h.ended_is ∙ sym (ap (λ (x : World). x.ended) b.world);
      still = ap (λ (x : World). x.closed) b.world ∙ h.still;
      placed = subst (λ x. ArePlaced (x + 1) v.threads) (sym places) (placed_later w.places (w.places + 1) v.threads (omega arith) p);
      few = omega (arith, h.few, places, same);
      live_is = λ f. sym (ap shown b.world);
    })

pub ties_drain : (image : ImageState) (j new : List Entry) (seat c : ℕ) (live : LiveState) (outs none : List ToEmacs) (n k : ℕ) (ended failed : Bool) → none ≡ [] → new ≡ j ++ entry seat (Drain c) ∷ []
    → Ties (run rules image j) j live outs n k ended failed → Ties (run rules image new) new live none n k ended failed
ties_drain image j new seat c live outs none n k ended failed empty is h =
    let w : World = run rules image j in
    ties_more image j new (entry seat (Drain c)) live none n k ended failed is (record {
      outs_are = empty;
      places_are = longer j new _ is ∙ ap (λ x. x + 1) h.places_are;
      steps_are = omega (arith, h.steps_are, made j new seat (Drain c) is);
      after_are = omega (arith, h.after_are, behind image j new seat (Drain c) is, none_behind w.ended seat (Drain c) refl);
      ended_is = h.ended_is;
      still = h.still;
      placed = placed_later w.places (w.places + 1) w.threads (omega arith) h.placed;
      few = omega (arith, h.few);
      live_is = h.live_is;
    })

-- a fresh session
pub ties_open : (image : ImageState) (j : List Entry) (live : LiveState) (outs : List ToEmacs) → j ≡ [] → outs ≡ [] → live ≡ shown (start image) → Ties (run rules image j) j live outs 0 0 false false
ties_open image j live outs empty none is =
    subst (λ (x : List Entry). Ties (run rules image x) x live outs 0 0 false false) (sym empty) (record {
      outs_are = none;
      places_are = refl;
      steps_are = refl;
      after_are = refl;
      ended_is = refl;
      still = refl;
      placed = first_placed;
      few = omega arith;
      live_is = λ f. is;
    })
  where
    first_placed : (t : ℕ) (thread : Thread) → thread_in (None ∷ Some (fresh []) ∷ []) t ≡ Some thread → IsPlaced 0 thread
    first_placed zero thread e = absurd (none-some thread e)
    first_placed (suc zero) thread e = subst (IsPlaced 0) (same_Some (fresh []) thread e) tt
    first_placed (suc (suc t)) thread e = absurd (none-some thread e)

-- ---- room and ranges

-- an event that adds at most 256 steps
pub fits_more : (j new : List Entry) (e : Entry) (outs all : List ToEmacs) (n k n2 k2 : ℕ) (limits : Limits) → new ≡ j ++ e ∷ [] → length j + 1 < limits.journal → n2 ≤ n + 256 → k2 ≤ n2
    → Fits j outs n k limits → Fits new all n2 k2 limits
fits_more j new e outs all n k n2 k2 limits is room steps after f =
    let long : length new ≡ length j + 1 = longer j new e is in
    record {
      spare = λ h. omega (arith, long, room);
      within = omega (arith, long, room);
      most = f.most;
      steps_below = omega (arith, long, steps, f.steps_below);
      after_below = after;
    }

pub fits_drain : (j new : List Entry) (e : Entry) (outs none : List ToEmacs) (n k : ℕ) (limits : Limits) → new ≡ j ++ e ∷ [] → 0 < length outs → none ≡ [] → Fits j outs n k limits → Fits new none n k limits
fits_drain j new e outs none n k limits is some empty f =
    let long : length new ≡ length j + 1 = longer j new e is in
    let room : length j < limits.journal = f.spare some in
    let nothing : length none ≡ 0 = ap length empty in
    record {
      spare = λ h. absurd (omega (arith, h, nothing));
      within = omega (arith, long, room);
      most = f.most;
      steps_below = omega (arith, long, f.steps_below);
      after_below = f.after_below;
    }

pub fits_open : (j : List Entry) (outs : List ToEmacs) (limits : Limits) → j ≡ [] → outs ≡ [] → limits.journal ≤ 4000000 → Fits j outs 0 0 limits
fits_open j outs limits empty none most =
    let nothing : length outs ≡ 0 = ap length none in
    let start_only : length j ≡ 0 = ap length empty in
    record {
      spare = λ h. absurd (omega (arith, h, nothing));
      within = omega (arith, start_only);
      most = most;
      steps_below = omega arith;
      after_below = omega arith;
    }

-- ---- what a burst adds to the steps behind the end

pub behind_end : (ended : Bool) (seat t m : ℕ) → ended ≡ true → steps_behind ended (entry seat (Burst t m) ∷ []) ≡ m
behind_end true seat t m e = omega arith
behind_end false seat t m e = absurd (cc)

pub before_end : (ended : Bool) (seat t m : ℕ) → ended ≡ false → steps_behind ended (entry seat (Burst t m) ∷ []) ≡ 0
before_end true seat t m e = absurd (cc)
before_end false seat t m e = refl

-- ---- drains and loans

-- where something is undrained the last entry is no drain
pub none_drained : (image : ImageState) (j : List Entry) → 0 < length (run rules image j).undrained → ends_with_drain j ≡ false
none_drained image j some = by_case (ends_with_drain j) refl
  where
    by_case : (b : Bool) → ends_with_drain j ≡ b → b ≡ false
    by_case false e = refl
    by_case true e = let none : length (run rules image j).undrained ≡ 0 = ap length (drained_ends image j e) in absurd (omega (arith, some, none))

lent_if : (w : World) (seat t : ℕ) (o : Option Thread) → thread_at w t ≡ o → (not w.closed && option_map_or is_lendable o false) ≡ true → IsLentTo seat (thread_in (lends_thread built.levels w seat t o).after.threads t)
lent_if w seat t None e ready = absurd (no (not w.closed) ready)
  where
    no : (b : Bool) → (b && false) ≡ true → ⊥
    no true h = absurd (cc)
    no false h = absurd (cc)
lent_if w seat t (Some thread) e ready =
    subst (IsLentTo seat) (sym (thread_set_same w.threads t (Some (record (interrupted built.levels thread.interrupts thread) { lent = Some seat })) (live_within w.threads t thread e))) refl

-- a ready thread is lent after its loan
pub lent_then : (image : ImageState) (j new : List Entry) (seat t : ℕ) → new ≡ j ++ entry seat (Lend t) ∷ [] → is_ready (run rules image j) t ≡ true → IsLentTo seat (thread_at (run rules image new) t)
lent_then image j new seat t is ready =
    let w : World = run rules image j in
    subst (λ (v : World). IsLentTo seat (thread_at v t)) (sym (ap (run rules image) is ∙ run_more rules image j (entry seat (Lend t))))
    (lent_if w seat t (thread_at w t) refl ready)
