-- The journal of a core is legal, since each thread that is lent can make a step.
use Rattle.server_rules.specs.Built.{built}
use Rattle.std.proofs.Common.{◌≡◌, ℕ, ℤ, zero, suc, ◌+◌, ◌<◌, ◌≤◌, Bool, true, false, List, [], ◌∷◌, ◌++◌, length, Option, Some, None, ⊎_elim, refl, sym, ap, ◌∙◌, subst, arith}
use Rattle.std.specs.Prelude.{◌&&◌, ◌||◌, not, nat_lt, if◌then◌else◌, slice_set}
use Rattle.std.specs.Option.{option_map_or}
use Rattle.std.proofs.lemmas.Bool.{cases_eq}
use Rattle.std.proofs.lemmas.Option.{none-some, same_Some}
use Rattle.rpc_messages.specs.declared.from_emacs.FromEmacs.{FromEmacs}
use Rattle.rpc_messages.specs.declared.from_emacs.FromEmacs.TheVariants as mail
use Rattle.rpc_messages.specs.declared.from_emacs.ThreadName.{ThreadName}
use Rattle.rpc_messages.specs.declared.from_emacs.ThreadName.TheVariants as name
use Rattle.term_model.specs.declared.focus.Focus.{Focus}
use Rattle.term_model.specs.declared.focus.Focus.TheVariants as focus
use Rattle.term_model.specs.Breaks.{broken, broken_at, may_open}
use Rattle.term_model.specs.Term.{Context, Term, split, split-plug}
use Rattle.server_rules.specs.Rules.{rules}
use Rattle.step_model.specs.Image.{ImageState}
use Rattle.step_model.specs.Now.{Mailbox, Now}
use Rattle.step_model.specs.AsBuilt.{step_as_built}
use Rattle.session_model.specs.declared.event.Entry.{Entry}
use Rattle.session_model.specs.declared.event.Event.TheVariants.{Arrive, End, Lend, Burst, Drain}
use Rattle.session_model.specs.Arriving.{answers, arrives, interrupts, named, posted, requests, requests_by}
use Rattle.session_model.specs.Journal.{next, run, run_from}
use Rattle.session_model.specs.Legal.{can_step, goes_on, is_active, is_lendable, is_lent, is_ready, may_step, waits_in_vain, AreLegal, CanMake, IsLegal, IsLegalFrom, IsLentTo, MayArrive, max_burst}
use Rattle.session_model.specs.Pipe.{burst_length}
use Rattle.session_model.specs.Running.{bursts, interrupted, is_over, lends_thread, now_of, settles, step_of, steps, steps_once, unlent}
use Rattle.session_model.specs.World.{Thread, World, fresh, repl, start, thread_at, thread_in}
use Rattle.session_model.proofs.ArrivingLemmas.{arrived_either}
use Rattle.swank_core.specs.Ties.{GoesOn, HasLegal, LentGoOn}
use Rattle.swank_core.proofs.PlacedLemmas.{each_push, each_set, live_within, thread_set_other, thread_set_same}
use Rattle.swank_core.proofs.RunLemmas.{run_more}
use Rattle.swank_core.proofs.ThreadLemmas.{goes_on_with_more}
use Rattle.swank_core.proofs.TiesLemmas.{entry}

-- ---- one entry more

legal_from : (w : World) (j : List Entry) (e : Entry) → AreLegal rules w j → IsLegal rules (run_from rules w j).after e → AreLegal rules w (j ++ e ∷ [])
legal_from w [] e h may = (may, tt)
legal_from w (x ∷ j) e h may = (h.0, legal_from (next rules w x).after j e h.1 may)

has_more : (image : ImageState) (j new : List Entry) (e : Entry) → new ≡ j ++ e ∷ [] → HasLegal image j → IsLegal rules (run rules image j) e → LentGoOn (next rules (run rules image j) e).after.threads
    → HasLegal image new
has_more image j new e is h may lent = record {
  legal = subst (IsLegalFrom rules image) (sym is) (legal_from (start image) j e h.legal may);
  lent = subst (λ (w : World). LentGoOn w.threads) (sym (ap (run rules image) is ∙ run_more rules image j e)) lent;
}

-- ---- threads that are lent go on

not_lent : (thread : Thread) → thread.lent ≡ None → GoesOn thread
not_lent thread none lent = absurd (no (sym (ap is_there none) ∙ lent))
  where
    is_there : Option ℕ → Bool
    is_there None = false
    is_there (Some seat) = true

    no : false ≡ true → ⊥
    no e = absurd (cc)

posted_goes : (thread : Thread) (i : ℕ) (m : FromEmacs) → GoesOn thread → GoesOn (posted thread i m)
posted_goes thread i m h lent = goes_on_with_more (split thread.term).1 thread.mailbox ((i, m) ∷ []) (h lent)

requests_lent : (w : World) (t : ℕ) (id : ℤ) (m : FromEmacs) (o : Option Thread) → thread_at w t ≡ o → LentGoOn w.threads → LentGoOn (requests w t id m o).after.threads
requests_lent w t id m None e h = h
requests_lent w t id m (Some thread) e h = each_set GoesOn w.threads t (posted thread w.places m) h (posted_goes thread w.places m (h t thread e))

answers_lent : (w : World) (t : ℕ) (m : FromEmacs) (o : Option Thread) → thread_at w t ≡ o → LentGoOn w.threads → LentGoOn (answers w t m o).after.threads
answers_lent w t m None e h = h
answers_lent w t m (Some thread) e h = each_set GoesOn w.threads t (posted thread w.places m) h (posted_goes thread w.places m (h t thread e))

interrupts_lent : (w : World) (t : ℕ) (o : Option Thread) → thread_at w t ≡ o → LentGoOn w.threads → LentGoOn (interrupts w t o).after.threads
interrupts_lent w t None e h = h
interrupts_lent w t (Some thread) e h = each_set GoesOn w.threads t (record thread { interrupts = thread.interrupts + 1 }) h (h t thread e)

requests_by_lent : (w : World) (id : ℤ) (m : FromEmacs) (thread : ThreadName) → LentGoOn w.threads → LentGoOn (requests_by w id m thread).after.threads
requests_by_lent w id m name.New h = each_push GoesOn w.threads (fresh ((w.places, m) ∷ [])) h (not_lent (fresh ((w.places, m) ∷ [])) refl)
requests_by_lent w id m name.Repl h = requests_lent w repl id m (thread_at w repl) refl h
requests_by_lent w id m (name.Id t) h = requests_lent w t id m (thread_at w t) refl h

arrives_lent : (w : World) (m : FromEmacs) → LentGoOn w.threads → LentGoOn (arrives w m).after.threads
arrives_lent w (mail.Rex form «package» thread id) h = requests_by_lent w id (mail.Rex form «package» thread id) thread h
arrives_lent w (mail.Interrupt thread) h = interrupts_lent w (named w thread) (thread_at w (named w thread)) refl h
arrives_lent w (mail.ReturnString thread tag text) h = answers_lent w (named w thread) (mail.ReturnString thread tag text) (thread_at w (named w thread)) refl h
arrives_lent w (mail.Return thread tag value) h = answers_lent w (named w thread) (mail.Return thread tag value) (thread_at w (named w thread)) refl h
arrives_lent w (mail.Unreadable packet text) h = h

-- a redex that a break leaves waits for nothing
break_goes_on : (b : Bool) (c : Context) (f : Focus) (mailbox : Mailbox) → waits_in_vain (broken_at b c f).1 mailbox ≡ false
break_goes_on true c (focus.Given o) mailbox = refl
break_goes_on true c f mailbox = refl
break_goes_on false c f mailbox = refl

broken_goes_on : (t : Term) (mailbox : Mailbox) → waits_in_vain (split (broken built.levels t)).1 mailbox ≡ false
broken_goes_on t mailbox =
    let s : Context × Focus = split t in
    let b : Context × Focus = broken_at (may_open built.levels s.0) s.0 s.1 in
    ap (λ (r : Context × Focus). waits_in_vain r.1 mailbox) (split-plug b.0 b.1) ∙ break_goes_on (may_open built.levels s.0) s.0 s.1 mailbox

lent_goes : (thread : Thread) (n seat : ℕ) → (nat_lt 0 n || can_step thread) ≡ true → can_step (record (interrupted built.levels n thread) { lent = Some seat }) ≡ true
lent_goes thread zero seat h = h
lent_goes thread (suc n) seat h = ap not (broken_goes_on thread.term thread.mailbox)

and_left : (a b : Bool) → (a && b) ≡ true → a ≡ true
and_left true b h = refl
and_left false b h = h

and_right : (a b : Bool) → (a && b) ≡ true → b ≡ true
and_right true b h = h
and_right false b h = absurd (cc)

lends_lent : (w : World) (seat t : ℕ) (o : Option Thread) → thread_at w t ≡ o → option_map_or is_lendable o false ≡ true → LentGoOn w.threads → LentGoOn (lends_thread built.levels w seat t o).after.threads
lends_lent w seat t None e ready h = h
lends_lent w seat t (Some thread) e ready h =
    each_set GoesOn w.threads t (record (interrupted built.levels thread.interrupts thread) { lent = Some seat }) h
    (λ lent. lent_goes thread thread.interrupts seat (and_left (is_active thread) (not (is_lent thread)) ready))

-- ---- a burst changes no other thread

settles_other : (w : World) (t u : ℕ) (thread : Thread) (n : Now) (over : Bool) → (u ≡ t → ⊥) → thread_in (settles w t thread n over).after.threads u ≡ thread_in w.threads u
settles_other w t u thread n true ne = thread_set_other w.threads t u None ne
settles_other w t u thread n false ne = thread_set_other w.threads t u _ ne

step_other : (w : World) (t u : ℕ) (o : Option Thread) → (u ≡ t → ⊥) → thread_in (step_of rules w t o).after.threads u ≡ thread_in w.threads u
step_other w t u (Some thread) ne = let n : Now = step_as_built rules.built rules (now_of w t thread) in settles_other w t u thread n (is_over t n) ne
step_other w t u None ne = refl

steps_other : (n t u : ℕ) (w : World) → (u ≡ t → ⊥) → thread_in (steps rules n t w).after.threads u ≡ thread_in w.threads u
steps_other zero t u w ne = refl
steps_other (suc n) t u w ne = steps_other n t u (steps_once rules w t).after ne ∙ step_other w t u (thread_at w t) ne

unlent_other : (w : World) (t u : ℕ) (o : Option Thread) → (u ≡ t → ⊥) → thread_in (unlent w t o).threads u ≡ thread_in w.threads u
unlent_other w t u (Some thread) ne = thread_set_other w.threads t u _ ne
unlent_other w t u None ne = refl

unlent_own : (w : World) (t : ℕ) (o : Option Thread) → thread_at w t ≡ o → (thread : Thread) → thread_in (unlent w t o).threads t ≡ Some thread → thread.lent ≡ None
unlent_own w t None e thread is = absurd (none-some thread (sym e ∙ is))
unlent_own w t (Some was) e thread is =
    let here : thread_in (slice_set w.threads t (Some (record was { lent = None }))) t ≡ Some (record was { lent = None }) = thread_set_same w.threads t (Some (record was { lent = None })) (live_within w.threads t was e) in
    ap (λ (x : Thread). x.lent) (sym (same_Some (record was { lent = None }) thread (sym here ∙ is)))

bursts_lent : (w : World) (t n : ℕ) → LentGoOn w.threads → LentGoOn (bursts rules w t n).after.threads
bursts_lent w t n h = λ u thread e.
    let v : World = (steps rules n t w).after in
    ⊎_elim
    (λ (same : u ≡ t). not_lent thread (unlent_own v t (thread_at v t) refl thread (ap (thread_in (unlent v t (thread_at v t)).threads) (sym same) ∙ e)))
    (λ (ne : u ≡ t → ⊥). h u thread (sym (unlent_other v t u (thread_at v t) ne ∙ steps_other n t u w ne) ∙ e))
    (cases_eq u t)

can_if : (t m : ℕ) (w : World) (b : Bool) → may_step w t ≡ b → CanMake rules m t (steps_once rules w t).after → CanMake rules (if b then suc m else 0) t w
can_if t m w true e h = (e, h)
can_if t m w false e h = tt

burst_can : (most t : ℕ) (w : World) → CanMake rules (burst_length rules most t w) t w
burst_can zero t w = tt
burst_can (suc most) t w =
    can_if t (burst_length rules most t (steps_once rules w t).after) w (may_step w t) refl (burst_can most t (steps_once rules w t).after)

some_if : (b : Bool) (n : ℕ) → b ≡ true → 0 < (if b then suc n else 0)
some_if true n h = omega arith
some_if false n h = absurd (cc)

burst_some : (most t : ℕ) (w : World) → 0 < most → may_step w t ≡ true → 0 < burst_length rules most t w
burst_some zero t w h g = absurd (omega (arith, h))
burst_some (suc most) t w h g = some_if (may_step w t) (burst_length rules most t (steps_once rules w t).after) g

lent_steps : (w : World) (seat t : ℕ) (o : Option Thread) → thread_at w t ≡ o → w.closed ≡ false → IsLentTo seat o → LentGoOn w.threads → goes_on w.closed o ≡ true
lent_steps w seat t None e still lent h = absurd lent
lent_steps w seat t (Some thread) e still lent h = ap (λ b. not b && can_step thread) still ∙ h t thread e (ap is_there lent)
  where
    is_there : Option ℕ → Bool
    is_there None = false
    is_there (Some seat) = true

-- ---- events

pub legal_arrive : (image : ImageState) (j new : List Entry) (seat : ℕ) (m : FromEmacs) → new ≡ j ++ entry seat (Arrive m) ∷ [] → (run rules image j).ended ≡ false → (run rules image j).closed ≡ false → MayArrive m
    → HasLegal image j → HasLegal image new
legal_arrive image j new seat m is more still may h = has_more image j new (entry seat (Arrive m)) is h ((more, still), may) (arrived_either (λ x. LentGoOn x.after.threads) rules.built (run rules image j) m h.lent (arrives_lent (run rules image j) m h.lent))

pub legal_end : (image : ImageState) (j new : List Entry) (seat : ℕ) → new ≡ j ++ entry seat End ∷ [] → (run rules image j).ended ≡ false → (run rules image j).closed ≡ false → HasLegal image j → HasLegal image new
legal_end image j new seat is more still h = has_more image j new (entry seat End) is h (more, still) h.lent

pub legal_lend : (image : ImageState) (j new : List Entry) (seat t : ℕ) → new ≡ j ++ entry seat (Lend t) ∷ [] → is_ready (run rules image j) t ≡ true → HasLegal image j → HasLegal image new
legal_lend image j new seat t is ready h =
    let w : World = run rules image j in
    has_more image j new (entry seat (Lend t)) is h ready
    (lends_lent w seat t (thread_at w t) refl (and_right (not w.closed) (option_map_or is_lendable (thread_at w t) false) ready) h.lent)

pub legal_burst : (image : ImageState) (j new : List Entry) (seat t max n : ℕ) → new ≡ j ++ entry seat (Burst t n) ∷ [] → (run rules image j).closed ≡ false → IsLentTo seat (thread_at (run rules image j) t)
    → 1 ≤ max → max ≤ max_burst → n ≤ max → n ≡ burst_length rules max t (run rules image j) → HasLegal image j → HasLegal image new
legal_burst image j new seat t max n is still lent some most within many h =
    let w : World = run rules image j in
    let goes : may_step w t ≡ true = lent_steps w seat t (thread_at w t) refl still lent h.lent in
    let one : 0 < burst_length rules max t w = burst_some max t w (omega (arith, some)) goes in
    has_more image j new (entry seat (Burst t n)) is h
    (lent, omega (arith, one, many), omega (arith, within, most), subst (λ k. CanMake rules k t w) (sym many) (burst_can max t w))
    (bursts_lent w t n h.lent)

pub legal_drain : (image : ImageState) (j new : List Entry) (seat k : ℕ) → new ≡ j ++ entry seat (Drain k) ∷ [] → 0 < k → k ≡ length (run rules image j).undrained → HasLegal image j → HasLegal image new
legal_drain image j new seat k is some all h = has_more image j new (entry seat (Drain k)) is h (some, all) h.lent

pub legal_open : (image : ImageState) (j : List Entry) → j ≡ [] → HasLegal image j
legal_open image j empty = subst (HasLegal image) (sym empty) (record { legal = tt; lent = first_lent })
  where
    first_lent : LentGoOn (None ∷ Some (fresh []) ∷ [])
    first_lent zero thread e = absurd (none-some thread e)
    first_lent (suc zero) thread e = subst GoesOn (same_Some (fresh []) thread e) (not_lent (fresh []) refl)
    first_lent (suc (suc t)) thread e = absurd (none-some thread e)
