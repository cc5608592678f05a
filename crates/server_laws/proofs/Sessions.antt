-- Each event keeps the facts of the session's image, threads and workers; and, where the journal is legal and what arrives is small, what it
-- writes fits.
use mir.Syntax.{w64}
use Rattle.std.proofs.Common.{◌≡◌, ℕ, ℤ, zero, suc, ◌+◌, ◌^◌, ◌<◌, Bool, true, false, All, List, [], ◌∷◌, ◌++◌, Option, Some, None, refl, sym, subst, arith}
use Rattle.std.specs.Prelude.{FitsSigned, slice_get}
use Rattle.std.proofs.lemmas.List.Elements.{All-cons, All-nil}
use Rattle.std.proofs.lemmas.Option.{slice_get_within}
use Rattle.rpc_messages.specs.declared.from_emacs.FromEmacs.{FromEmacs}
use Rattle.rpc_messages.specs.declared.from_emacs.FromEmacs.TheVariants as mail
use Rattle.rpc_messages.specs.declared.from_emacs.ThreadName.{ThreadName}
use Rattle.rpc_messages.specs.declared.from_emacs.ThreadName.TheVariants as name
use Rattle.rpc_messages.specs.declared.to_emacs.ToEmacs.{ToEmacs}
use Rattle.term_model.specs.declared.focus.Focus.{Focus}
use Rattle.term_model.specs.Breaks.{broken_at, may_open}
use Rattle.term_model.specs.Label.{Label}
use Rattle.term_model.specs.Term.{At, Context, plug, split, split-plug}
use Rattle.step_model.specs.Image.{ImageState}
use Rattle.step_model.specs.Now.{Mailbox, Now}
use Rattle.step_model.specs.AsBuilt.{limited, step_as_built}
use Rattle.session_model.specs.declared.event.Entry.{Entry}
use Rattle.session_model.specs.declared.event.Event.{Event}
use Rattle.session_model.specs.declared.event.Event.TheVariants.{Arrive, End, Lend, Burst, Drain}
use Rattle.session_model.specs.Arriving.{answers, arrives, hires, interrupts, most_recent, named, posted, requests, requests_by, workers_after}
use Rattle.session_model.specs.Journal.{arrivals, arrived, happens, next, outputs, run, run_from}
use Rattle.session_model.specs.Legal.{AreLegal, IsLegalFrom, IsSmallName, MayArrive, MayHappen}
use Rattle.session_model.specs.Running.{after_step, broke_if, interrupted, is_over, lends_thread, now_of, returns, settles, step_of, steps, steps_once, swept, unlent}
use Rattle.session_model.specs.World.{Happened, Thread, World, fresh, repl, silent, start, tells, then, thread_at, with_thread}
use Rattle.session_model.proofs.ArrivingLemmas.{arrived_either}
use Rattle.session_laws.proofs.EachThread.{Holds, add_one, becomes, set_one}
use Rattle.session_laws.proofs.EachThread as threads
use Rattle.session_laws.proofs.Threads.{found}
use Rattle.server_rules.specs.Built.{built}
use Rattle.server_rules.specs.Rules.{rules}
use Rattle.server_rules.proofs.SimpleLemmas.{broken-leaves}
use Rattle.server_laws.specs.Small.{AreSmall, FitsPacket, HasShortNames, IsSmall}
use Rattle.server_laws.proofs.Messages.{abort_fits, condition_fits, fault_fits, invalid_fits}
use Rattle.server_laws.proofs.Steps.{AllFit, Each, Fits, MailFits, fit-append, step_fits}
use Rattle.server_laws.proofs.Terms.{LayersFit, RedexFits}
use Rattle.server_laws.proofs.Workers.{AreLive, add_all, added_live, after_live, ended_all, live_found, not_live, set_all}

-- a message says only of a thread that is no worker that it isn't there
recent_small : (w : World) (workers : List ℕ) → AreLive w.threads workers → thread_at w (most_recent workers) ≡ None → most_recent workers < 2 ^ 63
recent_small w [] h e = omega arith
recent_small w (t ∷ workers) h e = absurd (not_live (slice_get w.threads t) e h.0)

abbrev EventIsSmall : Event → Type 0
EventIsSmall (Arrive m) = IsSmall m
EventIsSmall _ = Unit {0}

arrived_small : (e : Event) (ms : List FromEmacs) → AreSmall (arrived e ms) → EventIsSmall e × AreSmall ms
arrived_small (Arrive m) ms h = h
arrived_small End ms h = (tt, h)
arrived_small (Lend t) ms h = (tt, h)
arrived_small (Burst t n) ms h = (tt, h)
arrived_small (Drain k) ms h = (tt, h)

module _ (Small : Type 0) where
  abbrev TermFits : Context × Focus → Type 0
  TermFits s = LayersFit Small s.0 × RedexFits s.1

  abbrev ThreadFits : Thread → Type 0
  ThreadFits thread = TermFits (split thread.term) × MailFits Small thread.mailbox

  record WorldFits (w : World) : Type 0 where
    names : HasShortNames w.image
    threads : threads.Each ThreadFits w.threads
    workers : AreLive w.threads w.workers

  record HappenedFits (h : Happened) : Type 0 where
    after : WorldFits h.after
    labels : AllFit Small h.labels

  silent_fits : (w : World) → WorldFits w → HappenedFits (silent w)
  silent_fits w h = record { after = h; labels = λ s. tt }

  tells_fits : (w : World) (ls : List Label) → WorldFits w → AllFit Small ls → HappenedFits (tells w ls)
  tells_fits w ls h k = record { after = record { names = h.names; threads = h.threads; workers = h.workers }; labels = k }

  -- a live thread becomes another
  becomes_fits : (w : World) (t : ℕ) (thread now : Thread) → thread_at w t ≡ Some thread → (ThreadFits thread → ThreadFits now) → WorldFits w → WorldFits (with_thread w t (Some now))
  becomes_fits w t thread now e keep h =
      let at = found w.threads t thread e in
      record {
        names = h.names;
        threads = becomes ThreadFits w.threads t thread now at keep h.threads;
        workers = set_all w.threads t now w.workers (slice_get_within w.threads t (Some thread) at) h.workers;
      }

  -- ---- arrivals

  mail-append : (mb : Mailbox) (i : ℕ) (m : FromEmacs) → MailFits Small mb → (Small → IsSmall m) → MailFits Small (mb ++ (i, m) ∷ [])
  mail-append [] i m h k = (k, tt)
  mail-append (n ∷ mb) i m h k = (h.0, mail-append mb i m h.1 k)

  posted_fits : (thread : Thread) (i : ℕ) (m : FromEmacs) → (Small → IsSmall m) → ThreadFits thread → ThreadFits (posted thread i m)
  posted_fits thread i m k h = (h.0, mail-append thread.mailbox i m h.1 k)

  requests_fit : (w : World) (t : ℕ) (id : ℤ) (m : FromEmacs) (o : Option Thread) → thread_at w t ≡ o → (Small → FitsSigned w64 id) → (Small → t < 2 ^ 63) → (Small → IsSmall m) → WorldFits w → HappenedFits (requests w t id m o)
  requests_fit w t id m (Some thread) e fits small k h =
      let v : World = record w { workers = workers_after t w.workers } in
      let g : WorldFits v = record { names = h.names; threads = h.threads; workers = after_live w.threads t w.workers (live_found w.threads t thread e) h.workers } in
      tells_fits (with_thread v t (Some (posted thread w.places m))) _ (becomes_fits v t thread (posted thread w.places m) e (posted_fits thread w.places m k) g) (λ s. tt)
  requests_fit w t id m None e fits small k h = tells_fits w _ h (λ s. (invalid_fits id t (fits s) (small s), tt))

  hires_fit : (w : World) (m : FromEmacs) → (Small → IsSmall m) → WorldFits w → HappenedFits (hires w m)
  hires_fit w m k h =
      let thread = fresh ((w.places, m) ∷ []) in
      record {
        after = record {
          names = h.names;
          threads = add_one ThreadFits w.threads (Some thread) ((tt, tt), (k, tt)) h.threads;
          workers = (added_live w.threads thread, add_all w.threads thread w.workers h.workers);
        };
        labels = λ s. tt;
      }

  requests_by_fit : (w : World) (id : ℤ) (m : FromEmacs) (thread : ThreadName) → (Small → FitsSigned w64 id) → (Small → IsSmallName thread) → (Small → IsSmall m) → WorldFits w → HappenedFits (requests_by w id m thread)
  requests_by_fit w id m name.New fits small k h = hires_fit w m k h
  requests_by_fit w id m name.Repl fits small k h = requests_fit w repl id m (thread_at w repl) refl fits (λ s. omega arith) k h
  requests_by_fit w id m (name.Id t) fits small k h = requests_fit w t id m (thread_at w t) refl fits small k h

  answers_fit : (w : World) (t : ℕ) (m : FromEmacs) (o : Option Thread) → thread_at w t ≡ o → (Small → IsSmall m) → WorldFits w → HappenedFits (answers w t m o)
  answers_fit w t m (Some thread) e k h =
      tells_fits (with_thread w t (Some (posted thread w.places m))) _ (becomes_fits w t thread (posted thread w.places m) e (posted_fits thread w.places m k) h) (λ s. tt)
  answers_fit w t m None e k h = silent_fits w h

  named_small : (w : World) (thread : ThreadName) → IsSmallName thread → WorldFits w → thread_at w (named w thread) ≡ None → named w thread < 2 ^ 63
  named_small w name.New small h e = recent_small w w.workers h.workers e
  named_small w name.Repl small h e = omega arith
  named_small w (name.Id t) small h e = small

  interrupts_fit : (w : World) (t : ℕ) (o : Option Thread) → thread_at w t ≡ o → (Small → thread_at w t ≡ None → t < 2 ^ 63) → WorldFits w → HappenedFits (interrupts w t o)
  interrupts_fit w t (Some thread) e small h = silent_fits _ (becomes_fits w t thread (record thread { interrupts = thread.interrupts + 1 }) e (λ k. k) h)
  interrupts_fit w t None e small h = tells_fits w _ h (λ s. (condition_fits t (small s e), tt))

  arrives_fit : (w : World) (m : FromEmacs) → (Small → IsSmall m) → (Small → MayArrive m) → WorldFits w → HappenedFits (arrives w m)
  arrives_fit w (mail.Rex form p thread id) k g h = requests_by_fit w id (mail.Rex form p thread id) thread k g k h
  arrives_fit w (mail.Interrupt thread) k g h = interrupts_fit w (named w thread) (thread_at w (named w thread)) refl (λ s. named_small w thread (g s) h) h
  arrives_fit w (mail.ReturnString thread tag text) k g h = answers_fit w (named w thread) (mail.ReturnString thread tag text) (thread_at w (named w thread)) refl (λ s. tt) h
  arrives_fit w (mail.Return thread tag form) k g h = answers_fit w (named w thread) (mail.Return thread tag form) (thread_at w (named w thread)) refl (λ s. tt) h
  arrives_fit w (mail.Unreadable packet text) k g h = tells_fits w _ h (λ s. (fault_fits packet text (k s) (g s), tt))

  -- ---- loans

  plugged : (c : Context) (f : Focus) → LayersFit Small c → RedexFits f → TermFits (split (plug c (At f)))
  plugged c f h k = subst TermFits (sym (split-plug c f)) (h, k)

  broken_fits : (s : Context × Focus) → LayersFit Small s.0 → TermFits (broken_at (may_open built.levels s.0) s.0 s.1)
  broken_fits s h = subst TermFits (sym (broken-leaves s.0 s.1)) (h, tt)

  interrupted_fits : (n : ℕ) (thread : Thread) → ThreadFits thread → ThreadFits (interrupted built.levels n thread)
  interrupted_fits zero thread h = h
  interrupted_fits (suc n) thread h =
      let s = split thread.term in
      let b = broken_at (may_open built.levels s.0) s.0 s.1 in
      let fits = broken_fits s h.0.0 in
      (plugged b.0 b.1 fits.0 fits.1, h.1)

  broke_fits : (t n : ℕ) (b : Bool) → AllFit Small (broke_if t n b)
  broke_fits t zero b = λ s. tt
  broke_fits t (suc n) true = λ s. tt
  broke_fits t (suc n) false = λ s. tt

  lends_fit : (w : World) (seat t : ℕ) (o : Option Thread) → thread_at w t ≡ o → WorldFits w → HappenedFits (lends_thread built.levels w seat t o)
  lends_fit w seat t (Some thread) e h =
      let now = record (interrupted built.levels thread.interrupts thread) { lent = Some seat } in
      tells_fits (with_thread w t (Some now)) _ (becomes_fits w t thread now e (interrupted_fits thread.interrupts thread) h) (broke_fits t thread.interrupts (may_open built.levels (split thread.term).0))
  lends_fit w seat t None e h = silent_fits w h

  -- ---- steps

  swept_fits : (t : ℕ) (mb : Mailbox) → MailFits Small mb → AllFit Small (swept t mb)
  swept_fits t [] h = λ s. tt
  swept_fits t ((i, mail.Rex form p thread id) ∷ mb) h = λ s. (abort_fits id (h.0 s), swept_fits t mb h.1 s)
  swept_fits t ((i, mail.Interrupt thread) ∷ mb) h = swept_fits t mb h.1
  swept_fits t ((i, mail.ReturnString thread tag text) ∷ mb) h = swept_fits t mb h.1
  swept_fits t ((i, mail.Return thread tag form) ∷ mb) h = swept_fits t mb h.1
  swept_fits t ((i, mail.Unreadable packet text) ∷ mb) h = swept_fits t mb h.1

  settles_fit : (w : World) (t : ℕ) (thread : Thread) (n : Now) (over : Bool) → thread_at w t ≡ Some thread → Fits Small n → WorldFits w → HappenedFits (settles w t thread n over)
  settles_fit w t thread n false e f h =
      let v : World = record w { image = n.image; tag = n.tag; inspected = n.inspected; closed = n.closed } in
      let g : WorldFits v = record { names = f.names; threads = h.threads; workers = h.workers } in
      tells_fits (with_thread v t (Some (after_step thread n))) n.labels (becomes_fits v t thread (after_step thread n) e (λ k. (plugged n.context n.redex f.layers f.redex, f.mail)) g) f.labels
  settles_fit w t thread n true e f h =
      let at = found w.threads t thread e in
      record {
        after = record {
          names = f.names;
          threads = set_one ThreadFits w.threads t None (slice_get_within w.threads t (Some thread) at) tt h.threads;
          workers = ended_all w.threads t w.workers h.workers;
        };
        labels = fit-append Small n.labels (swept t n.mailbox) f.labels (swept_fits t n.mailbox f.mail);
      }

  thread_fits : (w : World) (t : ℕ) (thread : Thread) → thread_at w t ≡ Some thread → WorldFits w → ThreadFits thread
  thread_fits w t thread e h = subst (Holds ThreadFits) (found w.threads t thread e) (h.threads t)

  now_fits : (w : World) (t : ℕ) (thread : Thread) → thread_at w t ≡ Some thread → WorldFits w → Fits Small (limited built (now_of w t thread))
  now_fits w t thread e h = let k = thread_fits w t thread e h in record { names = h.names; closed = refl; layers = k.0.0; redex = k.0.1; mail = k.1; labels = λ s. tt }

  one_step : (w : World) (t : ℕ) (o : Option Thread) → thread_at w t ≡ o → WorldFits w → HappenedFits (step_of rules w t o)
  one_step w t (Some thread) e h =
      let n = step_as_built rules.built rules (now_of w t thread) in
      settles_fit w t thread n (is_over t n) e (step_fits Small (now_of w t thread) (now_fits w t thread e h)) h
  one_step w t None e h = silent_fits w h

  then_fits : (h : Happened) (further : World → Happened) → HappenedFits h → (WorldFits h.after → HappenedFits (further h.after)) → HappenedFits (then h further)
  then_fits h further a b = let k = b a.after in record { after = k.after; labels = fit-append Small h.labels (further h.after).labels a.labels k.labels }

  steps_fit : (n t : ℕ) (w : World) → WorldFits w → HappenedFits (steps rules n t w)
  steps_fit zero t w h = silent_fits w h
  steps_fit (suc n) t w h = then_fits (steps_once rules w t) (steps rules n t) (one_step w t (thread_at w t) refl h) (λ k. steps_fit n t (steps_once rules w t).after k)

  unlent_fits : (w : World) (t : ℕ) (o : Option Thread) → thread_at w t ≡ o → WorldFits w → WorldFits (unlent w t o)
  unlent_fits w t (Some thread) e h = becomes_fits w t thread (record thread { lent = None }) e (λ k. k) h
  unlent_fits w t None e h = h

  -- ---- journals

  happens_fit : (w : World) (seat : ℕ) (e : Event) → (Small → EventIsSmall e) → (Small → MayHappen rules w seat e) → WorldFits w → HappenedFits (happens rules w seat e)
  happens_fit w seat (Arrive m) k g h = arrived_either HappenedFits rules.built w m (silent_fits w h) (arrives_fit w m k (λ s. (g s).1) h)
  happens_fit w seat End k g h = silent_fits _ (record { names = h.names; threads = h.threads; workers = h.workers })
  happens_fit w seat (Lend t) k g h = lends_fit w seat t (thread_at w t) refl h
  happens_fit w seat (Burst t n) k g h =
      then_fits (steps rules n t w) (returns t) (steps_fit n t w h) (λ a. let v : World = (steps rules n t w).after in silent_fits _ (unlent_fits v t (thread_at v t) refl a))
  happens_fit w seat (Drain k) small g h = silent_fits _ (record { names = h.names; threads = h.threads; workers = h.workers })

  next_fits : (w : World) (e : Entry) → (Small → EventIsSmall e.event) → (Small → MayHappen rules w e.seat e.event) → WorldFits w → HappenedFits (next rules w e)
  next_fits w e k g h =
      let f = happens_fit w e.seat e.event k g h in
      record { after = record { names = f.after.names; threads = f.after.threads; workers = f.after.workers }; labels = f.labels }

  run_fits : (j : List Entry) (w : World) → (Small → AreSmall (arrivals j)) → (Small → AreLegal rules w j) → WorldFits w → HappenedFits (run_from rules w j)
  run_fits [] w small legal h = silent_fits w h
  run_fits (e ∷ j) w small legal h =
      let parts : Small → EventIsSmall e.event × AreSmall (arrivals j) = λ s. arrived_small e.event (arrivals j) (small s) in
      then_fits (next rules w e) (λ v. run_from rules v j) (next_fits w e (λ s. (parts s).0) (λ s. (legal s).0) h) (λ k. run_fits j (next rules w e).after (λ s. (parts s).1) (λ s. (legal s).1) k)

  start_fits : (image : ImageState) → HasShortNames image → WorldFits (start image)
  start_fits image h = record { names = h; threads = first; workers = tt }
    where
      first : threads.Each ThreadFits (start image).threads
      first zero = tt
      first (suc zero) = ((tt, tt), tt)
      first (suc (suc t)) = tt

all : (ms : List ToEmacs) → Each ms → All FitsPacket ms
all [] h = All-nil FitsPacket
all (m ∷ ms) h = All-cons FitsPacket m ms h.0 (all ms h.1)

-- no message that a session writes is too long for a packet
pub outputs_fit : (image : ImageState) (j : List Entry) → HasShortNames image → AreSmall (arrivals j) → IsLegalFrom rules image j → All FitsPacket (outputs rules image j)
outputs_fit image j h small legal =
    all (outputs rules image j) ((run_fits (Unit {0}) j (start image) (λ s. small) (λ s. legal) (start_fits (Unit {0}) image h)).labels tt)

-- short names stay short, whatever arrives
pub names_stay_short : (image : ImageState) (j : List Entry) → HasShortNames image → HasShortNames (run rules image j).image
names_stay_short image j h = (run_fits ⊥ j (start image) (λ s. absurd s) (λ s. absurd s) (start_fits ⊥ image h)).after.names
