-- What each event does to the interrupts and the loan of one thread.
use Rattle.std.proofs.Common.{◌≡◌, ℕ, ℤ, zero, suc, ◌+◌, ◌≤◌, ◌<◌, ◌≢◌, ⊎_elim, Bool, true, false, ◌&&◌, List, [], ◌∷◌, ◌++◌, length, Option, Some, None, refl, sym, ap, ◌∙◌, subst, arith}
use Rattle.std.specs.Prelude.{◌==◌, is_some, nat_lt, slice_get, slice_set}
use Rattle.std.specs.Option.{option_map_or}
use Rattle.std.proofs.lemmas.Bool.{cases_eq}
use Rattle.std.proofs.lemmas.Bool.Decides.{nat_tests}
use Rattle.std.proofs.lemmas.Option.{slice_get_past, slice_get_within}
use Rattle.std.proofs.Math.Nat.{le_refl}
use Rattle.rpc_messages.specs.declared.from_emacs.FromEmacs.{FromEmacs}
use Rattle.rpc_messages.specs.declared.from_emacs.FromEmacs.TheVariants as mail
use Rattle.rpc_messages.specs.declared.from_emacs.ThreadName.{ThreadName}
use Rattle.rpc_messages.specs.declared.from_emacs.ThreadName.TheVariants as name
use Rattle.step_model.specs.Built.{Built}
use Rattle.step_model.specs.Now.{Now}
use Rattle.step_model.specs.Rules.{Rules}
use Rattle.step_model.specs.AsBuilt.{step_as_built}
use Rattle.session_model.specs.declared.event.Entry.{Entry}
use Rattle.session_model.specs.declared.event.Event.{Event}
use Rattle.session_model.specs.declared.event.Event.TheVariants.{Arrive, End, Lend, Burst, Drain}
use Rattle.session_model.specs.Arriving.{answers, arrives_as_built, interrupts, interrupts_if, named, posted, requests, requests_by}
use Rattle.session_model.specs.Journal.{happens, next, run_from}
use Rattle.session_model.specs.Running.{after_step, bursts, interrupted, is_over, lends_thread, now_of, settles, step_of, steps, steps_once, unlent}
use Rattle.session_model.specs.World.{Thread, World, fresh, repl, thread_at}
use Rattle.session_laws.specs.BreaksPromptly.{arrived, interrupts_now, interrupts_thread, is_loan_of, loans, pending, pending_in, taken, takes_interrupt}
use Rattle.session_laws.specs.Counting.{tally}
use Rattle.session_laws.proofs.SomeLemmas.{none≢some, some_is}
use Rattle.session_laws.proofs.Threads.{found, get-append_last, get-append_other, get-set_other, get-set_same}

-- the interrupts and the loan at a thread's number
abbrev pub pend : Option (Option Thread) → ℕ
pend None = 0
pend (Some None) = 0
pend (Some (Some thread)) = thread.interrupts

abbrev pub loan : Option (Option Thread) → Option ℕ
loan None = None
loan (Some None) = None
loan (Some (Some thread)) = thread.lent

-- an event that brings so many interrupts and takes so many turns one entry of a thread's number into another: an ended thread stays so,
-- and unless the thread ends the count is right
abbrev pub Counts : ℕ → ℕ → Option (Option Thread) → Option (Option Thread) → Type 0
Counts a b x (Some None) = Unit {0}
Counts a b x None = (x ≢ Some None) × (0 + b ≡ pend x + a)
Counts a b x (Some (Some thread)) = (x ≢ Some None) × (thread.interrupts + b ≡ pend x + a)

live_not_over : (thread : Thread) → Some (Some thread) ≡ Some None → ⊥
live_not_over thread e = none≢some (sym (some_is e))

pub counts_same : (x : Option (Option Thread)) → Counts 0 0 x x
counts_same None = (λ e. none≢some e, refl)
counts_same (Some None) = tt
counts_same (Some (Some thread)) = (live_not_over thread, refl)

pub counts_more : (a b c d : ℕ) (x y z : Option (Option Thread)) → Counts a b x y → Counts c d y z → Counts (a + c) (b + d) x z
counts_more a b c d x y (Some None) h k = tt
counts_more a b c d x (Some None) None h k = absurd (k.0 refl)
counts_more a b c d x None None h k = (h.0, omega (arith, h.1, k.1))
counts_more a b c d x (Some (Some thread)) None h k = (h.0, omega (arith, h.1, k.1))
counts_more a b c d x (Some None) (Some (Some new)) h k = absurd (k.0 refl)
counts_more a b c d x None (Some (Some new)) h k = (h.0, omega (arith, h.1, k.1))
counts_more a b c d x (Some (Some thread)) (Some (Some new)) h k = (h.0, omega (arith, h.1, k.1))

-- ---- what an event does at the number of thread t

by_number : (threads : List (Option Thread)) (u t : ℕ) (o : Option Thread) (a b : ℕ) → u < length threads → (u ≡ t → Counts a b (slice_get threads t) (Some o)) → (u ≢ t → Counts a b (slice_get threads t) (slice_get threads t)) → Counts a b (slice_get threads t) (slice_get (slice_set threads u o) t)
by_number threads u t o a b within here there =
    ⊎_elim
    (λ (e : u ≡ t). subst (λ x. Counts a b (slice_get threads t) x) (sym (ap (λ v. slice_get (slice_set threads u o) v) (sym e) ∙ get-set_same threads u o within)) (here e))
    (λ (ne : u ≢ t). subst (λ x. Counts a b (slice_get threads t) x) (sym (get-set_other threads u t o ne)) (there ne))
    (cases_eq u t)

-- a thread that keeps its interrupts, or ends
keeps : (threads : List (Option Thread)) (u t : ℕ) (thread now : Thread) → slice_get threads u ≡ Some (Some thread) → now.interrupts ≡ thread.interrupts → Counts 0 0 (slice_get threads t) (slice_get (slice_set threads u (Some now)) t)
keeps threads u t thread now e same =
    by_number threads u t (Some now) 0 0 (slice_get_within threads u (Some thread) e)
    (λ is. subst (λ x. Counts 0 0 x (Some (Some now))) (sym (ap (slice_get threads) (sym is) ∙ e)) (live_not_over thread, omega (arith, same)))
    (λ ne. counts_same (slice_get threads t))

ends : (threads : List (Option Thread)) (u t : ℕ) (thread : Thread) → slice_get threads u ≡ Some (Some thread) → Counts 0 0 (slice_get threads t) (slice_get (slice_set threads u None) t)
ends threads u t thread e =
    by_number threads u t None 0 0 (slice_get_within threads u (Some thread) e) (λ is. tt) (λ ne. counts_same (slice_get threads t))

hires_one : (threads : List (Option Thread)) (t : ℕ) (new : Thread) → new.interrupts ≡ 0 → Counts 0 0 (slice_get threads t) (slice_get (threads ++ Some new ∷ []) t)
hires_one threads t new none =
    ⊎_elim
    (λ (e : length threads ≡ t).
    let past : slice_get threads t ≡ None = ap (slice_get threads) (sym e) ∙ slice_get_past threads (length threads) (le_refl (length threads)) in
    let here : slice_get (threads ++ Some new ∷ []) t ≡ Some (Some new) = ap (slice_get (threads ++ Some new ∷ [])) (sym e) ∙ get-append_last threads (Some new) in
    subst (λ x. Counts 0 0 x (slice_get (threads ++ Some new ∷ []) t)) (sym past) (subst (λ x. Counts 0 0 None x) (sym here) (λ f. none≢some f, omega (arith, none))))
    (λ (ne : length threads ≢ t). subst (λ x. Counts 0 0 (slice_get threads t) x) (sym (get-append_other threads (Some new) t ne)) (counts_same (slice_get threads t)))
    (cases_eq (length threads) t)

-- ---- arrivals

requests_count : (w : World) (u t : ℕ) (id : ℤ) (m : FromEmacs) (o : Option Thread) → thread_at w u ≡ o → Counts 0 0 (slice_get w.threads t) (slice_get (requests w u id m o).after.threads t)
requests_count w u t id m None e = counts_same (slice_get w.threads t)
requests_count w u t id m (Some thread) e = keeps w.threads u t thread (posted thread w.places m) (found w.threads u thread e) refl

requests_by_count : (w : World) (t : ℕ) (id : ℤ) (m : FromEmacs) (thread : ThreadName) → Counts 0 0 (slice_get w.threads t) (slice_get (requests_by w id m thread).after.threads t)
requests_by_count w t id m name.New = hires_one w.threads t (fresh ((w.places, m) ∷ [])) refl
requests_by_count w t id m name.Repl = requests_count w repl t id m (thread_at w repl) refl
requests_by_count w t id m (name.Id u) = requests_count w u t id m (thread_at w u) refl

answers_count : (w : World) (u t : ℕ) (m : FromEmacs) (o : Option Thread) → thread_at w u ≡ o → Counts 0 0 (slice_get w.threads t) (slice_get (answers w u m o).after.threads t)
answers_count w u t m None e = counts_same (slice_get w.threads t)
answers_count w u t m (Some thread) e = keeps w.threads u t thread (posted thread w.places m) (found w.threads u thread e) refl

-- the test is of a number and of whether the thread is live
here_and_live : (u t : ℕ) (b : Bool) → u ≡ t → b ≡ true → tally ((u == t) && b) ≡ 1
here_and_live u t true is e = grind (arith, nat_tests)
here_and_live u t false is e = absurd (cc)

not_here : (u t : ℕ) (b : Bool) → u ≢ t → tally ((u == t) && b) ≡ 0
not_here u t b ne = grind (arith, nat_tests)

not_live : (u t : ℕ) (b : Bool) → (u ≡ t → b ≡ false) → tally ((u == t) && b) ≡ 0
not_live u t true h = ⊎_elim (λ (e : u ≡ t). absurd (no (h e))) (λ (ne : u ≢ t). not_here u t true ne) (cases_eq u t)
  where
    no : true ≡ false → ⊥
    no e = absurd (cc)
not_live u t false h = both (u == t)
  where
    both : (a : Bool) → tally (a && false) ≡ 0
    both true = refl
    both false = refl

interrupts_count : (w : World) (u t : ℕ) (o : Option Thread) → thread_at w u ≡ o → Counts (tally ((u == t) && is_some (thread_at w t))) 0 (slice_get w.threads t) (slice_get (interrupts w u o).after.threads t)
interrupts_count w u t None e =
    subst (λ a. Counts a 0 (slice_get w.threads t) (slice_get w.threads t)) (sym (not_live u t (is_some (thread_at w t)) (λ is. ap (λ v. is_some (thread_at w v)) (sym is) ∙ ap is_some e))) (counts_same (slice_get w.threads t))
interrupts_count w u t (Some thread) e =
    let at = found w.threads u thread e in
    let now : Thread = record thread { interrupts = thread.interrupts + 1 } in
    by_number w.threads u t (Some now) (tally ((u == t) && is_some (thread_at w t))) 0 (slice_get_within w.threads u (Some thread) at)
    (λ is. subst (λ x. Counts (tally ((u == t) && is_some (thread_at w t))) 0 x (Some (Some now))) (sym (ap (slice_get w.threads) (sym is) ∙ at)) (live_not_over thread, omega (arith, here_and_live u t (is_some (thread_at w t)) is (ap (λ v. is_some (thread_at w v)) (sym is) ∙ ap is_some e))))
    (λ ne. subst (λ a. Counts a 0 (slice_get w.threads t) (slice_get w.threads t)) (sym (not_here u t (is_some (thread_at w t)) ne)) (counts_same (slice_get w.threads t)))

-- one that is dropped changes nothing
kept_count : (kept : Bool) (w : World) (u t : ℕ) (o : Option Thread) → thread_at w u ≡ o → Counts (tally (kept && (u == t) && is_some (thread_at w t))) 0 (slice_get w.threads t) (slice_get (interrupts_if kept w u o).after.threads t)
kept_count true w u t o e = interrupts_count w u t o e
kept_count false w u t (Some thread) e = counts_same (slice_get w.threads t)
kept_count false w u t None e = counts_same (slice_get w.threads t)

arrives_count : (built : Built) (w : World) (t : ℕ) (m : FromEmacs) → Counts (tally (interrupts_now built t w m)) 0 (slice_get w.threads t) (slice_get (arrives_as_built built w m).after.threads t)
arrives_count built w t (mail.Rex form p thread id) = requests_by_count w t id (mail.Rex form p thread id) thread
arrives_count built w t (mail.Interrupt thread) = kept_count built.interrupts w (named w thread) t (thread_at w (named w thread)) refl
arrives_count built w t (mail.ReturnString thread tag text) = answers_count w (named w thread) t (mail.ReturnString thread tag text) (thread_at w (named w thread)) refl
arrives_count built w t (mail.Return thread tag form) = answers_count w (named w thread) t (mail.Return thread tag form) (thread_at w (named w thread)) refl
arrives_count built w t (mail.Unreadable packet text) = counts_same (slice_get w.threads t)

-- ---- loans

here_test : (u t : ℕ) (b : Bool) → u ≡ t → tally ((u == t) && b) ≡ tally b
here_test u t b e = grind (arith, nat_tests)

some_pending : (n : ℕ) → tally (nat_lt 0 (suc n)) ≡ 1
some_pending n = grind (arith, nat_tests)

-- a loan takes one interrupt, where there is one
interrupted_one : (most n : ℕ) (thread : Thread) → thread.interrupts ≡ n → (interrupted most n thread).interrupts + tally (nat_lt 0 n) ≡ n
interrupted_one most zero thread e = omega (arith, e)
interrupted_one most (suc n) thread e = omega (arith, some_pending n)

lends_count : (most : ℕ) (w : World) (seat u t : ℕ) (o : Option Thread) → thread_at w u ≡ o → Counts 0 (tally ((u == t) && nat_lt 0 (pending t w))) (slice_get w.threads t) (slice_get (lends_thread most w seat u o).after.threads t)
lends_count most w seat u t None e =
    subst (λ b. Counts 0 b (slice_get w.threads t) (slice_get w.threads t)) (sym (not_live u t (nat_lt 0 (pending t w)) (λ is. ap (λ v. nat_lt 0 (pending v w)) (sym is) ∙ ap (λ o. nat_lt 0 (pending_in o)) e))) (counts_same (slice_get w.threads t))
lends_count most w seat u t (Some thread) e =
    let at = found w.threads u thread e in
    let now : Thread = record (interrupted most thread.interrupts thread) { lent = Some seat } in
    by_number w.threads u t (Some now) 0 (tally ((u == t) && nat_lt 0 (pending t w))) (slice_get_within w.threads u (Some thread) at)
    (λ is. subst (λ x. Counts 0 (tally ((u == t) && nat_lt 0 (pending t w))) x (Some (Some now))) (sym (ap (slice_get w.threads) (sym is) ∙ at)) (live_not_over thread, omega (arith, here_test u t (nat_lt 0 (pending t w)) is, ap (λ v. tally (nat_lt 0 (pending v w))) (sym is) ∙ ap (λ o. tally (nat_lt 0 (pending_in o))) e, interrupted_one most thread.interrupts thread refl)))
    (λ ne. subst (λ b. Counts 0 b (slice_get w.threads t) (slice_get w.threads t)) (sym (not_here u t (nat_lt 0 (pending t w)) ne)) (counts_same (slice_get w.threads t)))

-- ---- bursts

settles_count : (w : World) (u t : ℕ) (thread : Thread) (n : Now) (b : Bool) → slice_get w.threads u ≡ Some (Some thread) → Counts 0 0 (slice_get w.threads t) (slice_get (settles w u thread n b).after.threads t)
settles_count w u t thread n false e = keeps w.threads u t thread (after_step thread n) e refl
settles_count w u t thread n true e = ends w.threads u t thread e

step_count : (rules : Rules) (w : World) (u t : ℕ) (o : Option Thread) → thread_at w u ≡ o → Counts 0 0 (slice_get w.threads t) (slice_get (step_of rules w u o).after.threads t)
step_count rules w u t None e = counts_same (slice_get w.threads t)
step_count rules w u t (Some thread) e = let n = step_as_built rules.built rules (now_of w u thread) in settles_count w u t thread n (is_over u n) (found w.threads u thread e)

steps_count : (rules : Rules) (n u t : ℕ) (w : World) → Counts 0 0 (slice_get w.threads t) (slice_get (steps rules n u w).after.threads t)
steps_count rules zero u t w = counts_same (slice_get w.threads t)
steps_count rules (suc n) u t w =
    let v : World = (steps_once rules w u).after in
    counts_more 0 0 0 0 (slice_get w.threads t) (slice_get v.threads t) (slice_get (steps rules n u v).after.threads t) (step_count rules w u t (thread_at w u) refl) (steps_count rules n u t v)

unlent_count : (w : World) (u t : ℕ) (o : Option Thread) → thread_at w u ≡ o → Counts 0 0 (slice_get w.threads t) (slice_get (unlent w u o).threads t)
unlent_count w u t None e = counts_same (slice_get w.threads t)
unlent_count w u t (Some thread) e = keeps w.threads u t thread (record thread { lent = None }) (found w.threads u thread e) refl

bursts_count : (rules : Rules) (n u t : ℕ) (w : World) → Counts 0 0 (slice_get w.threads t) (slice_get (bursts rules w u n).after.threads t)
bursts_count rules n u t w =
    let v : World = (steps rules n u w).after in
    counts_more 0 0 0 0 (slice_get w.threads t) (slice_get v.threads t) (slice_get (unlent v u (thread_at v u)).threads t) (steps_count rules n u t w) (unlent_count v u t (thread_at v u) refl)

pub happens_count : (rules : Rules) (w : World) (seat t : ℕ) (e : Event) → Counts (tally (interrupts_thread rules.built t w e)) (tally (takes_interrupt t w e)) (slice_get w.threads t) (slice_get (happens rules w seat e).after.threads t)
happens_count rules w seat t (Arrive m) = arrives_count rules.built w t m
happens_count rules w seat t End = counts_same (slice_get w.threads t)
happens_count rules w seat t (Lend u) = lends_count rules.built.levels w seat u t (thread_at w u) refl
happens_count rules w seat t (Burst u n) = bursts_count rules n u t w
happens_count rules w seat t (Drain k) = counts_same (slice_get w.threads t)

-- ---- journals

counts_step : (a b : ℕ) (x y : Option (Option Thread)) → Counts a b x y → y ≢ Some None → (x ≢ Some None) × (pend y + b ≡ pend x + a)
counts_step a b x None h live = h
counts_step a b x (Some None) h live = absurd (live refl)
counts_step a b x (Some (Some thread)) h live = h

run_counts : (rules : Rules) (t : ℕ) (thread : Thread) (j : List Entry) (w : World) → slice_get (run_from rules w j).after.threads t ≡ Some (Some thread) → (slice_get w.threads t ≢ Some None) × (thread.interrupts + taken rules t w j ≡ pend (slice_get w.threads t) + arrived rules t w j)
run_counts rules t thread [] w e = (λ f. live_not_over thread (sym e ∙ f), omega (arith, ap pend e))
run_counts rules t thread (e ∷ j) w is =
    let v : World = (next rules w e).after in
    let rest = run_counts rules t thread j v is in
    let one = counts_step (tally (interrupts_thread rules.built t w e.event)) (tally (takes_interrupt t w e.event)) (slice_get w.threads t) (slice_get v.threads t) (happens_count rules w e.seat t e.event) rest.0 in
    (one.0, omega (arith, rest.1, one.1))

pend-pending : (o : Option (Option Thread)) → pend o ≡ pending_in (option_map_or (λ thread. thread) o None)
pend-pending None = refl
pend-pending (Some None) = refl
pend-pending (Some (Some thread)) = refl

pub pending_is : (rules : Rules) (w : World) (j : List Entry) (t : ℕ) (thread : Thread) → thread_at (run_from rules w j).after t ≡ Some thread → thread.interrupts + taken rules t w j ≡ pending t w + arrived rules t w j
pending_is rules w j t thread e = omega (arith, (run_counts rules t thread j w (found (run_from rules w j).after.threads t thread e)).1, pend-pending (slice_get w.threads t))

-- what is taken is taken by loans
taken_one : (t : ℕ) (w : World) (e : Event) → tally (takes_interrupt t w e) ≤ tally (is_loan_of t e)
taken_one t w (Lend u) = both (u == t) (nat_lt 0 (pending t w))
  where
    both : (a b : Bool) → tally (a && b) ≤ tally a
    both true true = omega arith
    both true false = omega arith
    both false b = omega arith
taken_one t w (Arrive m) = omega arith
taken_one t w End = omega arith
taken_one t w (Burst u n) = omega arith
taken_one t w (Drain k) = omega arith

taken_loans : (rules : Rules) (t : ℕ) (j : List Entry) (w : World) → taken rules t w j ≤ loans t j
taken_loans rules t [] w = omega arith
taken_loans rules t (e ∷ j) w = let a = taken_one t w e.event in let b = taken_loans rules t j (next rules w e).after in omega (arith, a, b)

pub none_taken : (rules : Rules) (w : World) (j : List Entry) (t : ℕ) → loans t j ≡ 0 → taken rules t w j ≡ 0
none_taken rules w j t e = let le = taken_loans rules t j w in omega (arith, le, e)
