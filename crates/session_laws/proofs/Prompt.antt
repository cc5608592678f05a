-- An interrupt is taken at the thread's next loan, and until then the thread makes steps in one burst at most.
use Rattle.std.proofs.Common.{◌≡◌, ℕ, zero, suc, ◌+◌, ◌≤◌, ◌<◌, ◌≢◌, ◌⊎◌, inl, inr, ⊎_elim, Bool, true, false, List, [], ◌∷◌, Option, Some, None, refl, sym, ap, ◌∙◌, subst, arith}
use Rattle.std.specs.Prelude.{◌==◌, if◌then◌else◌, slice_get, slice_set}
use Rattle.std.specs.Option.{option_map_or}
use Rattle.std.proofs.lemmas.Bool.{cases_eq}
use Rattle.std.proofs.lemmas.Bool.Decides.{nat_tests}
use Rattle.std.proofs.lemmas.Option.{slice_get_within}
use Rattle.term_model.specs.Breaks.{broken, may_open}
use Rattle.term_model.specs.Label.{Broke}
use Rattle.term_model.specs.Term.{split}
use Rattle.step_model.specs.Rules.{Rules}
use Rattle.session_model.specs.declared.event.Entry.{Entry}
use Rattle.session_model.specs.declared.event.Event.{Event}
use Rattle.session_model.specs.declared.event.Event.TheVariants.{Arrive, End, Lend, Burst, Drain}
use Rattle.session_model.specs.Arriving.{arrives_as_built}
use Rattle.session_model.specs.Journal.{happens, next, run_from}
use Rattle.session_model.specs.Legal.{AreLegal, IsLentTo, MayHappen}
use Rattle.session_model.specs.Running.{broke_if, bursts, interrupted, lends, lends_thread, steps, unlent}
use Rattle.session_model.specs.World.{Happened, Thread, World, thread_at}
use Rattle.session_laws.specs.BreaksPromptly.{BreaksPromptly, TakesInterrupt, bursts_of, is_burst_of, is_loan_of, loans, steps_in, steps_of}
use Rattle.session_laws.specs.Counting.{tally}
use Rattle.session_laws.proofs.Alone.{burst_alone, lend_alone}
use Rattle.session_laws.proofs.Counts.{tally_small}
use Rattle.session_laws.proofs.SomeLemmas.{none≢some, some_is}
use Rattle.session_laws.proofs.Pending.{loan, none_taken, pending_is}
use Rattle.session_laws.proofs.Receiving.{Received, received}
use Rattle.session_laws.proofs.Threads.{found, get-set_same, live_at}

-- ---- the next loan

broken_term : (most n : ℕ) (thread : Thread) → 0 < n → (interrupted most n thread).term ≡ broken most thread.term
broken_term most zero thread lt = absurd (omega (arith, lt))
broken_term most (suc n) thread lt = refl

one_less : (most n : ℕ) (thread : Thread) → 0 < n → (interrupted most n thread).interrupts + 1 ≡ n
one_less most zero thread lt = absurd (omega (arith, lt))
one_less most (suc n) thread lt = omega arith

says : (n t : ℕ) (b : Bool) → 0 < n → (broke_if t n b ≡ Broke t ∷ []) ⊎ (b ≡ false)
says zero t b lt = absurd (omega (arith, lt))
says (suc n) t true lt = inl refl
says (suc n) t false lt = inr refl

takes_interrupt : (most : ℕ) (w : World) (seat t : ℕ) (thread : Thread) → thread_at w t ≡ Some thread → 0 < thread.interrupts → TakesInterrupt most w seat t thread
takes_interrupt most w seat t thread e lt =
    let at = found w.threads t thread e in
    let new : Thread = record (interrupted most thread.interrupts thread) { lent = Some seat } in
    let is : lends most w seat t ≡ lends_thread most w seat t (Some thread) = ap (lends_thread most w seat t) e in
    record {
      now = new;
      is_now = ap (λ (h : Happened). thread_at h.after t) is ∙ live_at (slice_set w.threads t (Some new)) t new (get-set_same w.threads t (Some new) (slice_get_within w.threads t (Some thread) at));
      broken_term = broken_term most thread.interrupts thread lt;
      one_less = one_less most thread.interrupts thread lt;
      says = subst (λ (h : Happened). (h.labels ≡ Broke t ∷ []) ⊎ (may_open most (split thread.term).0 ≡ false)) (sym is) (says thread.interrupts t (may_open most (split thread.term).0) lt);
    }

-- ---- bursts

not_over : (thread : Thread) → Some (Some thread) ≡ Some None → ⊥
not_over thread e = none≢some (sym (some_is e))

-- an arrival lends no thread
received_loan : (a b : List (Option Thread)) (t : ℕ) (x y : Option (Option Thread)) → slice_get a t ≡ x → slice_get b t ≡ y → Received a b → loan x ≡ None → loan y ≡ None
received_loan a b t x None e f r h = refl
received_loan a b t x (Some None) e f r h = refl
received_loan a b t None (Some (Some now)) e f r h = ap (λ (th : Thread). th.lent) (r.new t now e f)
received_loan a b t (Some None) (Some (Some now)) e f r h = absurd (not_over now (sym f ∙ r.ended t e))
received_loan a b t (Some (Some thread)) (Some (Some now)) e f r h =
    let s = r.standing t thread e in
    ap (λ (th : Thread). th.lent) (some_is (some_is (sym f ∙ s.1))) ∙ s.2.lent ∙ h

not_lent : (o : Option (Option Thread)) (seat : ℕ) → loan o ≡ None → IsLentTo seat (option_map_or (λ thread. thread) o None) → ⊥
not_lent None seat e h = h
not_lent (Some None) seat e h = h
not_lent (Some (Some thread)) seat e h = none≢some (sym e ∙ h)

to_none : (o : Option (Option Thread)) → ((seat : ℕ) → IsLentTo seat (option_map_or (λ thread. thread) o None) → ⊥) → loan o ≡ None
to_none None h = refl
to_none (Some None) h = refl
to_none (Some (Some thread)) h = by_loan thread.lent refl
  where
    by_loan : (s : Option ℕ) → thread.lent ≡ s → thread.lent ≡ None
    by_loan None e = e
    by_loan (Some seat) e = absurd (h seat e)

-- a burst ends its thread's loan
unlent_loan : (w : World) (t : ℕ) (o : Option Thread) → thread_at w t ≡ o → loan (slice_get (unlent w t o).threads t) ≡ None
unlent_loan w t (Some thread) e =
    ap loan (get-set_same w.threads t (Some (record thread { lent = None })) (slice_get_within w.threads t (Some thread) (found w.threads t thread e)))
unlent_loan w t None e = to_none (slice_get w.threads t) (λ seat h. subst (IsLentTo seat) e h)

module _ (rules : Rules) (t : ℕ) where
  burst_ends : (w : World) (n : ℕ) → loan (slice_get (bursts rules w t n).after.threads t) ≡ None
  burst_ends w n = let v : World = (steps rules n t w).after in unlent_loan v t (thread_at v t) refl

  other_loan : (u : ℕ) → tally (u == t) ≡ 0 → u ≢ t
  other_loan u e same = absurd (omega (arith, e, here u t same))
    where
      here : (u t : ℕ) → u ≡ t → tally (u == t) ≡ 1
      here u t e = grind (arith, nat_tests)

  -- an event other than a loan of the thread leaves it unlent
  stays_unlent : (w : World) (seat : ℕ) (e : Event) → tally (is_loan_of t e) ≡ 0 → loan (slice_get w.threads t) ≡ None → loan (slice_get (happens rules w seat e).after.threads t) ≡ None
  stays_unlent w seat (Arrive m) e h = let now : List (Option Thread) = (arrives_as_built rules.built w m).after.threads in received_loan w.threads now t (slice_get w.threads t) (slice_get now t) refl refl (received rules.built w m) h
  stays_unlent w seat End e h = h
  stays_unlent w seat (Drain k) e h = h
  stays_unlent w seat (Lend u) e h = ap loan ((lend_alone rules.built.levels w seat u).others t (λ f. other_loan u e (sym f))) ∙ h
  stays_unlent w seat (Burst u n) e h =
      ⊎_elim
      (λ (same : u ≡ t). subst (λ v. loan (slice_get (bursts rules w v n).after.threads t) ≡ None) (sym same) (burst_ends w n))
      (λ (ne : u ≢ t). ap loan ((burst_alone rules w u n).others t (λ f. ne (sym f))) ∙ h)
      (cases_eq u t)

  -- an event of a thread that isn't lent is no burst of it
  no_burst : (w : World) (seat : ℕ) (e : Event) → MayHappen rules w seat e → loan (slice_get w.threads t) ≡ None → (tally (is_burst_of t e) ≡ 0) × (steps_in t e ≡ 0)
  no_burst w seat (Arrive m) may h = (refl, refl)
  no_burst w seat End may h = (refl, refl)
  no_burst w seat (Lend u) may h = (refl, refl)
  no_burst w seat (Drain k) may h = (refl, refl)
  no_burst w seat (Burst u n) may h =
      ⊎_elim
      (λ (same : u ≡ t). absurd (not_lent (slice_get w.threads t) seat h (subst (λ v. IsLentTo seat (thread_at w v)) same may.0)))
      (λ (ne : u ≢ t). elsewhere u n ne)
      (cases_eq u t)
    where
      elsewhere : (u n : ℕ) → u ≢ t → (tally (u == t) ≡ 0) × ((if u == t then n else 0) ≡ 0)
      elsewhere u n ne = (grind (arith, nat_tests), grind (arith, nat_tests))

  none_made : (j : List Entry) (w : World) → AreLegal rules w j → loans t j ≡ 0 → loan (slice_get w.threads t) ≡ None → (bursts_of t j ≡ 0) × (steps_of t j ≡ 0)
  none_made [] w legal none h = (refl, refl)
  none_made (e ∷ j) w legal none h =
      let here = no_burst w e.seat e.event legal.0 h in
      let rest = none_made j (next rules w e).after legal.1 (omega (arith, none)) (stays_unlent w e.seat e.event (omega (arith, none)) h) in
      (omega (arith, here.0, rest.0), omega (arith, here.1, rest.1))

  -- the first burst of the thread is the last
  one_made : (j : List Entry) (w : World) → AreLegal rules w j → loans t j ≡ 0 → (bursts_of t j ≤ 1) × (steps_of t j ≤ 256)
  one_made [] w legal none = (omega arith, omega arith)
  one_made (e ∷ j) w legal none =
      by_event e.seat e.event legal.0 (one_made j (next rules w e).after legal.1 (omega (arith, none)))
      (none_made j (next rules w e).after legal.1 (omega (arith, none)))
    where
      further : (bursts_of t j ≤ 1) × (steps_of t j ≤ 256) → (0 + bursts_of t j ≤ 1) × (0 + steps_of t j ≤ 256)
      further h = let a = h.0 in let b = h.1 in (omega (arith, a), omega (arith, b))

      last : (u n : ℕ) → u ≡ t → n ≤ 256 → (bursts_of t j ≡ 0) × (steps_of t j ≡ 0) → (tally (u == t) + bursts_of t j ≤ 1) × ((if u == t then n else 0) + steps_of t j ≤ 256)
      last u n same le h = let a = tally_small (u == t) in let b = steps_here u n same in (omega (arith, a, h.0), omega (arith, b, le, h.1))
        where
          tally_le : (b : Bool) → tally b ≤ 1
          tally_le true = omega arith
          tally_le false = omega arith

          one : (u : ℕ) → tally (u == t) ≤ 1
          one u = tally_le (u == t)

          steps_here : (u n : ℕ) → u ≡ t → (if u == t then n else 0) ≡ n
          steps_here u n e = grind (arith, nat_tests)

      elsewhere : (u n : ℕ) → u ≢ t → (tally (u == t) ≡ 0) × ((if u == t then n else 0) ≡ 0)
      elsewhere u n ne = (grind (arith, nat_tests), grind (arith, nat_tests))

      by_event : (seat : ℕ) (v : Event) → MayHappen rules w seat v → (bursts_of t j ≤ 1) × (steps_of t j ≤ 256) → (loan (slice_get (happens rules w seat v).after.threads t) ≡ None → (bursts_of t j ≡ 0) × (steps_of t j ≡ 0)) → (tally (is_burst_of t v) + bursts_of t j ≤ 1) × (steps_in t v + steps_of t j ≤ 256)
      by_event seat (Arrive m) may rest after = further rest
      by_event seat End may rest after = further rest
      by_event seat (Lend u) may rest after = further rest
      by_event seat (Drain k) may rest after = further rest
      by_event seat (Burst u n) may rest after =
          ⊎_elim
          (λ (same : u ≡ t). last u n same may.2 (after (subst (λ v. loan (slice_get (bursts rules w v n).after.threads t) ≡ None) (sym same) (burst_ends w n))))
          (λ (ne : u ≢ t). let h = elsewhere u n ne in let a = rest.0 in let b = rest.1 in (omega (arith, h.0, a), omega (arith, h.1, b)))
          (cases_eq u t)

pub breaks_promptly : (rules : Rules) (w : World) (j : List Entry) (t : ℕ) → BreaksPromptly rules w j t
breaks_promptly rules w j t = record {
  pending_is = pending_is rules w j t;
  none_taken = none_taken rules w j t;
  next_loan = λ seat thread e lt. takes_interrupt rules.built.levels (run_from rules w j).after seat t thread e lt;
  one_burst = λ legal none. one_made rules t j w legal none;
  none_unless_lent = λ legal none h. (none_made rules t j w legal none (to_none (slice_get w.threads t) h)).0;
}
