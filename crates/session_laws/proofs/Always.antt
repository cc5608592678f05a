-- What each move keeps holds after every journal.
use Rattle.std.proofs.Common.{◌≡◌, ℕ, ℤ, zero, suc, ◌+◌, ◌<◌, ◌≢◌, Bool, true, false, ◌&&◌, List, [], ◌∷◌, ◌++◌, length, Option, Some, None, refl, sym, ap, ◌∙◌, subst, ⊎_elim, append_assoc, append-nil, arith, length-append}
use Rattle.std.specs.Prelude.{◌==◌, not, slice_get, slice_set}
use Rattle.std.proofs.lemmas.Option.{slice_get_within, slice_get_past}
use Rattle.std.proofs.lemmas.Bool.{cases_eq}
use Rattle.std.proofs.Math.Nat.{le_refl}
use Rattle.lisp_data.specs.declared.sexp.Sexp.{Sexp}
use Rattle.mailboxes.specs.Mail.{first_accepted}
use Rattle.rpc_messages.specs.declared.from_emacs.FromEmacs.{FromEmacs}
use Rattle.rpc_messages.specs.declared.from_emacs.FromEmacs.TheVariants as mail
use Rattle.rpc_messages.specs.declared.from_emacs.ThreadName.{ThreadName}
use Rattle.rpc_messages.specs.declared.from_emacs.ThreadName.TheVariants as name
use Rattle.rpc_messages.specs.declared.pattern.Pattern.TheVariants as pattern
use Rattle.rpc_messages.specs.declared.to_emacs.ToEmacs.{ToEmacs}
use Rattle.rpc_messages.specs.declared.to_emacs.ToEmacs.TheVariants as message
use Rattle.term_model.specs.declared.focus.Focus.{Focus}
use Rattle.term_model.specs.Breaks.{broken_at, may_open}
use Rattle.term_model.specs.Label.{Label, Routed, Refused, Out, Broke}
use Rattle.term_model.specs.Term.{At, Context, plug, split, split-plug}
use Rattle.step_model.proofs.KeepsFacts.{marks-broken}
use Rattle.step_model.proofs.Paths.{as_built_path}
use Rattle.step_model.specs.Image.{ImageState}
use Rattle.step_model.specs.Marks.{Mark, State, marks, state_of}
use Rattle.step_model.specs.Moves.{Move, told, Fits, before, after, Phase, Path, stay, go, is_request}
use Rattle.step_model.specs.Now.{Mailbox, Now}
use Rattle.step_model.specs.Rules.{Rules}
use Rattle.step_model.specs.AsBuilt.{step_as_built}
use Rattle.session_model.specs.declared.event.Entry.{Entry}
use Rattle.session_model.specs.declared.event.Event.{Event}
use Rattle.session_model.specs.declared.event.Event.TheVariants.{Arrive, End, Lend, Burst, Drain}
use Rattle.session_model.specs.Arriving.{answers, arrives_as_built, interrupts, named, not_found, posted, requests, requests_by}
use Rattle.session_model.specs.Journal.{happens, labels, next, run, run_from}
use Rattle.session_model.specs.Running.{after_step, broke_if, interrupted, is_over, lends_thread, now_of, settles, step_of, steps, steps_once, swept, unlent}
use Rattle.session_model.specs.World.{Happened, Thread, World, fresh, repl, start, thread_at}
use Rattle.session_model.proofs.ArrivingLemmas.{arrived_either}
use Rattle.session_laws.specs.Seen.{Seen, Unborn, Alive, Gone, seen, seen_in, state_in}
use Rattle.session_laws.proofs.Places.{happens_places}
use Rattle.session_laws.proofs.StepFacts.{IsOf, step_of_thread}
use Rattle.session_laws.proofs.Sweeping.{sweep_path}
use Rattle.session_laws.proofs.Threads.{found, get-append_last, get-append_other, get-set_other, get-set_same}

-- whether an event is a request's arrival
abbrev pub asks : Event → Bool
asks (Arrive m) = is_request m
asks End = false
asks (Lend t) = false
asks (Burst t n) = false
asks (Drain k) = false

-- what an arrival that reaches no thread writes, other than a refusal
abbrev pub is_note : ToEmacs → Bool
is_note (message.DebugCondition t text) = true
is_note (message.ReaderError packet text) = true
is_note m = false

-- a fact of the journal so far, a thread's number, all labels so far and what is seen of the thread, which all that happens keeps
pub record IsLaw (I : List Entry → ℕ → List Label → Seen → Type 0) : Type 0 where
  -- a move of the thread itself, and one of another thread
  pub moves : (past : List Entry) (t : ℕ) (ls : List Label) (m : Move) (ms : List Mark) (s : ℕ) (mb : Mailbox) → Fits t m ms s mb → I past t ls (Alive (before m ms s mb)) → I past t (ls ++ told t m) (Alive (after m ms s mb))
  pub aside : (past : List Entry) (t u : ℕ) (ls : List Label) (x : Seen) (m : Move) (ms : List Mark) (s : ℕ) (mb : Mailbox) → Fits u m ms s mb → t ≢ u → I past u ls (Alive (before m ms s mb)) → I past t ls x → I past t (ls ++ told u m) x
  -- an entry that is no request's arrival
  pub later : (past : List Entry) (e : Entry) (t : ℕ) (ls : List Label) (x : Seen) → asks e.event ≡ false → I past t ls x → I (past ++ e ∷ []) t ls x
  -- a message for the thread, for a new one, and for another
  pub routed : (past : List Entry) (e : Entry) (t : ℕ) (ls : List Label) (s : State) (m : FromEmacs) → e.event ≡ Arrive m → I past t ls (Alive s) → I (past ++ e ∷ []) t (ls ++ Routed t (length past) m ∷ []) (Alive (record s { mailbox = s.mailbox ++ (length past, m) ∷ [] }))
  pub born : (past : List Entry) (e : Entry) (t : ℕ) (ls : List Label) (m : FromEmacs) → e.event ≡ Arrive m → I past t ls Unborn → I (past ++ e ∷ []) t (ls ++ Routed t (length past) m ∷ []) (Alive (record { marks = []; serial = 0; mailbox = (length past, m) ∷ [] }))
  pub routed_aside : (past : List Entry) (e : Entry) (t u : ℕ) (ls : List Label) (x : Seen) (m : FromEmacs) → e.event ≡ Arrive m → t ≢ u → I past t ls x → I (past ++ e ∷ []) t (ls ++ Routed u (length past) m ∷ []) x
  -- a request that is refused
  pub refused : (past : List Entry) (e : Entry) (t : ℕ) (form : Sexp) (p : Option (List ℕ)) (thread : ThreadName) (id : ℤ) (text : List ℕ) (ls : List Label) (x : Seen) → e.event ≡ Arrive (mail.Rex form p thread id) → I past t ls x → I (past ++ e ∷ []) t (ls ++ Refused (length past) ∷ Out (message.InvalidRpc id text) ∷ []) x
  -- a note
  pub noted : (past : List Entry) (t : ℕ) (ls : List Label) (m : ToEmacs) (x : Seen) → is_note m ≡ true → I past t ls x → I past t (ls ++ Out m ∷ []) x
  -- an interrupt that is taken
  pub broken : (past : List Entry) (t u : ℕ) (ls : List Label) (x : Seen) → I past t ls x → I past t (ls ++ Broke u ∷ []) x
  -- a thread's end
  pub gone : (past : List Entry) (t : ℕ) (ls : List Label) (s : ℕ) (mb : Mailbox) → first_accepted pattern.Rex mb ≡ None → I past t ls (Alive (record { marks = []; serial = s; mailbox = mb })) → I past t ls Gone
  -- the opening: a thread that isn't made yet, the number that is no thread's, and the thread of the REPL
  pub unborn : (t : ℕ) → I [] t [] Unborn
  pub none : (t : ℕ) → I [] t [] Gone
  pub first : (t : ℕ) → I [] t [] (Alive (record { marks = []; serial = 0; mailbox = [] }))

-- what is seen of a term that is put together
marks_plug : (c : Context) (f : Focus) → marks c ≡ marks (split (plug c (At f))).0
marks_plug c f = ap (λ (s : Context × Focus). marks s.0) (sym (split-plug c f))

state_interrupted : (most n : ℕ) (thread : Thread) → state_in thread ≡ state_in (interrupted most n thread)
state_interrupted most zero thread = refl
state_interrupted most (suc n) thread =
    let s = split thread.term in
    let b = broken_at (may_open most s.0) s.0 s.1 in
    ap (λ ms. record { marks = ms; serial = thread.serial; mailbox = thread.mailbox }) (sym (marks-broken most s.0 s.1) ∙ marks_plug b.0 b.1)

over_top : (t : ℕ) (n : Now) → IsOf t n → is_over t n ≡ true → n.context ≡ []
over_top t n is e = is.1 (left n.over (not (t == repl)) e)
  where
    left : (a b : Bool) → a && b ≡ true → a ≡ true
    left true b e = refl
    left false b e = absurd (cc)

module _ (rules : Rules) (I : List Entry → ℕ → List Label → Seen → Type 0) (law : IsLaw I) where
  by_path : (past : List Entry) (t : ℕ) (ls : List Label) (a : State) (new : List Label) (b : State) {ph : Phase} → Path t a new b ph → I past t ls (Alive a) → I past t (ls ++ new) (Alive b)
  by_path past t ls a new b stay h = subst (λ l. I past t l (Alive a)) (sym (append-nil ls)) h
  by_path past t ls a new b (go {ls = old} m ms s mb p fits may) h =
      subst (λ l. I past t l (Alive b)) (append_assoc ls old (told t m)) (law.moves past t (ls ++ old) m ms s mb fits (by_path past t ls a old _ p h))

  by_path_aside : (past : List Entry) (t u : ℕ) (ls : List Label) (x : Seen) (a : State) (new : List Label) (b : State) {ph : Phase} → t ≢ u → Path u a new b ph → I past u ls (Alive a) → I past t ls x → I past t (ls ++ new) x
  by_path_aside past t u ls x a new b ne stay g h = subst (λ l. I past t l x) (sym (append-nil ls)) h
  by_path_aside past t u ls x a new b ne (go {ls = old} m ms s mb p fits may) g h =
      subst (λ l. I past t l x) (append_assoc ls old (told u m)) (law.aside past t u (ls ++ old) x m ms s mb fits ne (by_path past u ls a old _ p g) (by_path_aside past t u ls x a old _ ne p g h))

  -- it holds of every thread
  Holds : List Entry → List Label → List (Option Thread) → Type 0
  Holds past ls threads = (u : ℕ) → I past u ls (seen_in threads u)

  -- thread t becomes another, and something is told
  turned : (past now : List Entry) (ls new : List Label) (threads : List (Option Thread)) (t : ℕ) (st : Option Thread) → t < length threads → (I past t ls (seen_in threads t) → I now t (ls ++ new) (seen (Some st))) → ((u : ℕ) → u ≢ t → I past u ls (seen_in threads u) → I now u (ls ++ new) (seen_in threads u)) → Holds past ls threads → Holds now (ls ++ new) (slice_set threads t st)
  unfolding Holds
  turned past now ls new threads t st within mine others h u =
      ⊎_elim
      (λ (e : u ≡ t). subst (λ v. I now v (ls ++ new) (seen (slice_get (slice_set threads t st) v))) (sym e) (subst (λ o. I now t (ls ++ new) (seen o)) (sym (get-set_same threads t st within)) (mine (h t))))
      (λ (ne : u ≢ t). subst (λ o. I now u (ls ++ new) (seen o)) (sym (get-set_other threads t u st (λ e. ne (sym e)))) (others u ne (h u)))
      (cases_eq u t)

  -- all threads stay as they are
  each_keeps : (past now : List Entry) (ls new : List Label) (threads : List (Option Thread)) → ((u : ℕ) (x : Seen) → I past u ls x → I now u (ls ++ new) x) → Holds past ls threads → Holds now (ls ++ new) threads
  unfolding Holds
  each_keeps past now ls new threads keep h u = keep u (seen_in threads u) (h u)

  same_labels : (past : List Entry) (u : ℕ) (ls : List Label) (x : Seen) → I past u ls x → I past u (ls ++ []) x
  same_labels past u ls x h = subst (λ l. I past u l x) (sym (append-nil ls)) h

  nothing : (past : List Entry) (ls : List Label) (threads : List (Option Thread)) → Holds past ls threads → Holds past (ls ++ []) threads
  nothing past ls threads h = each_keeps past past ls [] threads (λ u x i. same_labels past u ls x i) h

  later_keeps : (past : List Entry) (e : Entry) (ls : List Label) (threads : List (Option Thread)) → asks e.event ≡ false → Holds past ls threads → Holds (past ++ e ∷ []) ls threads
  unfolding Holds
  later_keeps past e ls threads none h u = law.later past e u ls (seen_in threads u) none (h u)

  was : (past : List Entry) (ls : List Label) (threads : List (Option Thread)) (t : ℕ) (o : Option (Option Thread)) → slice_get threads t ≡ o → I past t ls (seen_in threads t) → I past t ls (seen o)
  was past ls threads t o e h = subst (λ x. I past t ls (seen x)) e h

  -- a live thread changes in what no law sees
  stays : (past : List Entry) (ls : List Label) (threads : List (Option Thread)) (t : ℕ) (thread new : Thread) → state_in thread ≡ state_in new → slice_get threads t ≡ Some (Some thread) → Holds past ls threads → Holds past (ls ++ []) (slice_set threads t (Some new))
  stays past ls threads t thread new same e h =
      turned past past ls [] threads t (Some new) (slice_get_within threads t (Some thread) e)
      (λ i. same_labels past t ls (Alive (state_in new)) (subst (λ s. I past t ls (Alive s)) same (was past ls threads t (Some (Some thread)) e i)))
      (λ u ne i. same_labels past u ls (seen_in threads u) i) h

  -- ---- arrivals

  posts_keeps : (past : List Entry) (e : Entry) (ls : List Label) (threads : List (Option Thread)) (t i : ℕ) (m : FromEmacs) (thread : Thread) → e.event ≡ Arrive m → i ≡ length past → slice_get threads t ≡ Some (Some thread) → Holds past ls threads → Holds (past ++ e ∷ []) (ls ++ Routed t i m ∷ []) (slice_set threads t (Some (posted thread i m)))
  posts_keeps past e ls threads t i m thread is place at h =
      subst (λ k. Holds (past ++ e ∷ []) (ls ++ Routed t k m ∷ []) (slice_set threads t (Some (posted thread k m)))) (sym place)
      (turned past (past ++ e ∷ []) ls (Routed t (length past) m ∷ []) threads t (Some (posted thread (length past) m)) (slice_get_within threads t (Some thread) at)
      (λ g. law.routed past e t ls (state_in thread) m is (was past ls threads t (Some (Some thread)) at g))
      (λ u ne g. law.routed_aside past e u t ls (seen_in threads u) m is ne g) h)

  hired : (past : List Entry) (e : Entry) (ls : List Label) (threads : List (Option Thread)) (m : FromEmacs) → e.event ≡ Arrive m → Holds past ls threads → Holds (past ++ e ∷ []) (ls ++ Routed (length threads) (length past) m ∷ []) (threads ++ Some (fresh ((length past, m) ∷ [])) ∷ [])
  unfolding Holds
  hired past e ls threads m is h u =
      let t = length threads in
      let st = Some (fresh ((length past, m) ∷ [])) in
      let new = ls ++ Routed t (length past) m ∷ [] in
      let now = past ++ e ∷ [] in
      ⊎_elim
      (λ (same : u ≡ t). subst (λ v. I now v new (seen (slice_get (threads ++ st ∷ []) v))) (sym same) (subst (λ o. I now t new (seen o)) (sym (get-append_last threads st)) (law.born past e t ls m is (subst (λ o. I past t ls (seen o)) (slice_get_past threads t (le_refl t)) (h t)))))
      (λ (ne : u ≢ t). subst (λ o. I now u new (seen o)) (sym (get-append_other threads st u (λ same. ne (sym same)))) (law.routed_aside past e u t ls (seen_in threads u) m is ne (h u)))
      (cases_eq u t)

  hires_keeps : (past : List Entry) (e : Entry) (ls : List Label) (threads : List (Option Thread)) (i : ℕ) (m : FromEmacs) → e.event ≡ Arrive m → i ≡ length past → Holds past ls threads → Holds (past ++ e ∷ []) (ls ++ Routed (length threads) i m ∷ []) (threads ++ Some (fresh ((i, m) ∷ [])) ∷ [])
  hires_keeps past e ls threads i m is place h =
      subst (λ k. Holds (past ++ e ∷ []) (ls ++ Routed (length threads) k m ∷ []) (threads ++ Some (fresh ((k, m) ∷ [])) ∷ [])) (sym place) (hired past e ls threads m is h)

  -- it holds after what happened
  abbrev After : List Entry → List Label → Happened → Type 0
  After past ls h = Holds past (ls ++ h.labels) h.after.threads

  requests_keep : (past : List Entry) (e : Entry) (ls : List Label) (w : World) (t : ℕ) (form : Sexp) (p : Option (List ℕ)) (thread : ThreadName) (id : ℤ) (o : Option Thread) → e.event ≡ Arrive (mail.Rex form p thread id) → w.places ≡ length past → thread_at w t ≡ o → Holds past ls w.threads → After (past ++ e ∷ []) ls (requests w t id (mail.Rex form p thread id) o)
  requests_keep past e ls w t form p thread id (Some live) is place at h =
      posts_keeps past e ls w.threads t w.places (mail.Rex form p thread id) live is place (found w.threads t live at) h
  requests_keep past e ls w t form p thread id None is place at h =
      subst (λ i. Holds (past ++ e ∷ []) (ls ++ Refused i ∷ Out (message.InvalidRpc id (not_found t)) ∷ []) w.threads) (sym place)
      (each_keeps past (past ++ e ∷ []) ls (Refused (length past) ∷ Out (message.InvalidRpc id (not_found t)) ∷ []) w.threads (λ u x i. law.refused past e u form p thread id (not_found t) ls x is i) h)

  requests_by_keep : (past : List Entry) (e : Entry) (ls : List Label) (w : World) (form : Sexp) (p : Option (List ℕ)) (thread named : ThreadName) (id : ℤ) → e.event ≡ Arrive (mail.Rex form p thread id) → w.places ≡ length past → Holds past ls w.threads → After (past ++ e ∷ []) ls (requests_by w id (mail.Rex form p thread id) named)
  requests_by_keep past e ls w form p thread name.New id is place h = hires_keeps past e ls w.threads w.places (mail.Rex form p thread id) is place h
  requests_by_keep past e ls w form p thread name.Repl id is place h = requests_keep past e ls w repl form p thread id (thread_at w repl) is place refl h
  requests_by_keep past e ls w form p thread (name.Id t) id is place h = requests_keep past e ls w t form p thread id (thread_at w t) is place refl h

  answers_keep : (past : List Entry) (e : Entry) (ls : List Label) (w : World) (t : ℕ) (m : FromEmacs) (o : Option Thread) → asks e.event ≡ false → e.event ≡ Arrive m → w.places ≡ length past → thread_at w t ≡ o → Holds past ls w.threads → After (past ++ e ∷ []) ls (answers w t m o)
  answers_keep past e ls w t m (Some live) none is place at h = posts_keeps past e ls w.threads t w.places m live is place (found w.threads t live at) h
  answers_keep past e ls w t m None none is place at h = nothing (past ++ e ∷ []) ls w.threads (later_keeps past e ls w.threads none h)

  notes_keep : (past : List Entry) (ls : List Label) (threads : List (Option Thread)) (m : ToEmacs) → is_note m ≡ true → Holds past ls threads → Holds past (ls ++ Out m ∷ []) threads
  notes_keep past ls threads m is h = each_keeps past past ls (Out m ∷ []) threads (λ u x i. law.noted past u ls m x is i) h

  interrupts_keep : (past : List Entry) (ls : List Label) (w : World) (t : ℕ) (o : Option Thread) → thread_at w t ≡ o → Holds past ls w.threads → After past ls (interrupts w t o)
  interrupts_keep past ls w t (Some live) at h = stays past ls w.threads t live (record live { interrupts = live.interrupts + 1 }) refl (found w.threads t live at) h
  interrupts_keep past ls w t None at h = notes_keep past ls w.threads (message.DebugCondition t (not_found t)) refl h

  arrives_keep : (past : List Entry) (e : Entry) (ls : List Label) (w : World) (m : FromEmacs) → e.event ≡ Arrive m → asks e.event ≡ is_request m → w.places ≡ length past → Holds past ls w.threads → After (past ++ e ∷ []) ls (arrives_as_built rules.built w m)
  arrives_keep past e ls w (mail.Rex form p thread id) is asks place h = requests_by_keep past e ls w form p thread thread id is place h
  arrives_keep past e ls w (mail.Interrupt thread) is asks place h =
      let later = later_keeps past e ls w.threads asks h in
      arrived_either (After (past ++ e ∷ []) ls) rules.built w (mail.Interrupt thread) (nothing (past ++ e ∷ []) ls w.threads later)
      (interrupts_keep (past ++ e ∷ []) ls w (named w thread) (thread_at w (named w thread)) refl later)
  arrives_keep past e ls w (mail.ReturnString thread tag text) is asks place h = answers_keep past e ls w (named w thread) (mail.ReturnString thread tag text) (thread_at w (named w thread)) asks is place refl h
  arrives_keep past e ls w (mail.Return thread tag form) is asks place h = answers_keep past e ls w (named w thread) (mail.Return thread tag form) (thread_at w (named w thread)) asks is place refl h
  arrives_keep past e ls w (mail.Unreadable packet text) is asks place h = notes_keep (past ++ e ∷ []) ls w.threads (message.ReaderError packet text) refl (later_keeps past e ls w.threads asks h)

  -- ---- loans and bursts

  broke_keeps : (past : List Entry) (u t n : ℕ) (b : Bool) (x : Seen) (ls : List Label) → I past u ls x → I past u (ls ++ broke_if t n b) x
  broke_keeps past u t zero b x ls i = same_labels past u ls x i
  broke_keeps past u t (suc n) true x ls i = law.broken past u t ls x i
  broke_keeps past u t (suc n) false x ls i = same_labels past u ls x i

  lends_keep : (most : ℕ) (past : List Entry) (ls : List Label) (w : World) (seat t : ℕ) (o : Option Thread) → thread_at w t ≡ o → Holds past ls w.threads → After past ls (lends_thread most w seat t o)
  lends_keep most past ls w seat t None at h = nothing past ls w.threads h
  lends_keep most past ls w seat t (Some thread) at h =
      let b = may_open most (split thread.term).0 in
      let e = found w.threads t thread at in
      turned past past ls (broke_if t thread.interrupts b) w.threads t (Some (record (interrupted most thread.interrupts thread) { lent = Some seat })) (slice_get_within w.threads t (Some thread) e)
      (λ i. broke_keeps past t t thread.interrupts b (Alive (state_in (interrupted most thread.interrupts thread))) ls (subst (λ s. I past t ls (Alive s)) (state_interrupted most thread.interrupts thread) (was past ls w.threads t (Some (Some thread)) e i)))
      (λ u ne i. broke_keeps past u t thread.interrupts b (seen_in w.threads u) ls i) h

  settles_keeps : {ph : Phase} (past : List Entry) (ls : List Label) (w : World) (t : ℕ) (thread : Thread) (n : Now) (b : Bool) → (b ≡ true → n.context ≡ []) → slice_get w.threads t ≡ Some (Some thread) → Path t (state_in thread) n.labels (state_of n) ph → Holds past ls w.threads → After past ls (settles w t thread n b)
  unfolding Holds
  settles_keeps {ph = ph} past ls w t thread n false top e p h =
      turned past past ls n.labels w.threads t (Some (after_step thread n)) (slice_get_within w.threads t (Some thread) e)
      (λ i. subst (λ ms. I past t (ls ++ n.labels) (Alive (record { marks = ms; serial = n.serial; mailbox = n.mailbox }))) (marks_plug n.context n.redex) (by_path past t ls (state_in thread) n.labels (state_of n) p (was past ls w.threads t (Some (Some thread)) e i)))
      (λ u ne i. by_path_aside past u t ls (seen_in w.threads u) (state_in thread) n.labels (state_of n) ne p (was past ls w.threads t (Some (Some thread)) e (h t)) i) h
  settles_keeps {ph = ph} past ls w t thread n true top e p h =
      let at_top = subst (λ (c : Context). Path t (state_in thread) n.labels (record { marks = marks c; serial = n.serial; mailbox = n.mailbox }) ph) (top refl) p in
      let ends = sweep_path t (state_in thread) n.labels [] n.serial [] n.mailbox refl at_top in
      turned past past ls (n.labels ++ swept t n.mailbox) w.threads t None (slice_get_within w.threads t (Some thread) e)
      (λ i. law.gone past t (ls ++ (n.labels ++ swept t n.mailbox)) n.serial ends.0 ends.1 (by_path past t ls (state_in thread) (n.labels ++ swept t n.mailbox) (record { marks = []; serial = n.serial; mailbox = ends.0 }) ends.2 (was past ls w.threads t (Some (Some thread)) e i)))
      (λ u ne i. by_path_aside past u t ls (seen_in w.threads u) (state_in thread) (n.labels ++ swept t n.mailbox) (record { marks = []; serial = n.serial; mailbox = ends.0 }) ne ends.2 (was past ls w.threads t (Some (Some thread)) e (h t)) i) h

  step_keeps : (past : List Entry) (ls : List Label) (w : World) (t : ℕ) (o : Option Thread) → thread_at w t ≡ o → Holds past ls w.threads → After past ls (step_of rules w t o)
  step_keeps past ls w t None at h = nothing past ls w.threads h
  step_keeps past ls w t (Some thread) at h =
      let n = step_as_built rules.built rules (now_of w t thread) in
      let is : IsOf t n = step_of_thread rules (now_of w t thread) in
      let p = as_built_path rules.built rules (now_of w t thread) in
      settles_keeps past ls w t thread n (is_over t n) (over_top t n is) (found w.threads t thread at) (subst (λ u. Path u (state_in thread) n.labels (state_of n) p.0) is.0 p.1) h

  -- one thing after another
  then_keeps : (past : List Entry) (ls a b : List Label) (threads : List (Option Thread)) → Holds past ((ls ++ a) ++ b) threads → Holds past (ls ++ (a ++ b)) threads
  then_keeps past ls a b threads h = subst (λ l. Holds past l threads) (append_assoc ls a b) h

  steps_keep : (past : List Entry) (n t : ℕ) (ls : List Label) (w : World) → Holds past ls w.threads → After past ls (steps rules n t w)
  steps_keep past zero t ls w h = nothing past ls w.threads h
  steps_keep past (suc n) t ls w h =
      let one = steps_once rules w t in
      then_keeps past ls one.labels (steps rules n t one.after).labels (steps rules n t one.after).after.threads
      (steps_keep past n t (ls ++ one.labels) one.after (step_keeps past ls w t (thread_at w t) refl h))

  unlent_keeps : (past : List Entry) (ls : List Label) (w : World) (t : ℕ) (o : Option Thread) → thread_at w t ≡ o → Holds past ls w.threads → Holds past (ls ++ []) (unlent w t o).threads
  unlent_keeps past ls w t None at h = nothing past ls w.threads h
  unlent_keeps past ls w t (Some thread) at h = stays past ls w.threads t thread (record thread { lent = None }) refl (found w.threads t thread at) h

  bursts_keep : (past : List Entry) (n t : ℕ) (ls : List Label) (w : World) → Holds past ls w.threads → After past ls (happens rules w 0 (Burst t n))
  bursts_keep past n t ls w h =
      let s = steps rules n t w in
      then_keeps past ls s.labels [] (unlent s.after t (thread_at s.after t)).threads
      (unlent_keeps past (ls ++ s.labels) s.after t (thread_at s.after t) refl (steps_keep past n t ls w h))

  -- ---- journals

  happens_keeps : (past : List Entry) (e : Entry) (ls : List Label) (w : World) (event : Event) → e.event ≡ event → asks e.event ≡ asks event → w.places ≡ length past → Holds past ls w.threads → After (past ++ e ∷ []) ls (happens rules w e.seat event)
  happens_keeps past e ls w (Arrive m) is asks place h = arrives_keep past e ls w m is asks place h
  happens_keeps past e ls w End is asks place h = nothing (past ++ e ∷ []) ls w.threads (later_keeps past e ls w.threads asks h)
  happens_keeps past e ls w (Lend t) is asks place h = lends_keep rules.built.levels (past ++ e ∷ []) ls w e.seat t (thread_at w t) refl (later_keeps past e ls w.threads asks h)
  happens_keeps past e ls w (Burst t n) is asks place h = bursts_keep (past ++ e ∷ []) n t ls w (later_keeps past e ls w.threads asks h)
  happens_keeps past e ls w (Drain k) is asks place h = nothing (past ++ e ∷ []) ls w.threads (later_keeps past e ls w.threads asks h)

  run_keeps : (past : List Entry) (ls : List Label) (w : World) (j : List Entry) → w.places ≡ length past → Holds past ls w.threads → Holds (past ++ j) (ls ++ (run_from rules w j).labels) (run_from rules w j).after.threads
  run_keeps past ls w [] place h = subst (λ p. Holds p (ls ++ []) w.threads) (sym (append-nil past)) (nothing past ls w.threads h)
  run_keeps past ls w (e ∷ j) place h =
      let one = next rules w e in
      let rest = run_from rules one.after j in
      then_keeps (past ++ e ∷ j) ls one.labels rest.labels rest.after.threads
      (subst (λ p. Holds p ((ls ++ one.labels) ++ rest.labels) rest.after.threads) (append_assoc past (e ∷ []) j)
      (run_keeps (past ++ e ∷ []) (ls ++ one.labels) one.after j (omega (arith, place, happens_places rules w e.seat e.event, length-append past (e ∷ []))) (happens_keeps past e ls w e.event refl refl place h)))

  start_holds : (image : ImageState) → Holds [] [] (start image).threads
  unfolding Holds
  start_holds image zero = law.none zero
  start_holds image (suc zero) = law.first (suc zero)
  start_holds image (suc (suc t)) = law.unborn (suc (suc t))

  -- what each move keeps holds after every journal
  pub always : (image : ImageState) (j : List Entry) (t : ℕ) → I j t (labels rules image j) (seen_in (run rules image j).threads t)
  unfolding Holds
  always image j t = run_keeps [] [] (start image) j refl (start_holds image) t
