-- Before each place of the journal the messages of each thread came before it.
use Rattle.server_rules.specs.Built.{built}
use Rattle.std.proofs.Common.{◌≡◌, ℕ, ℤ, zero, suc, ◌+◌, ◌<◌, ◌≤◌, Bool, true, false, cond, List, [], ◌∷◌, ◌++◌, length, Option, Some, None, ⊎_elim, refl, sym, ap, ◌∙◌, subst, arith, length-append}
use Rattle.std.specs.Prelude.{slice_get, slice_set}
use Rattle.std.specs.Option.{option_map_or}
use Rattle.std.proofs.lemmas.Bool.{cases_eq}
use Rattle.std.proofs.lemmas.Option.{none-some, same_Some, slice_get_within}
use Rattle.std.proofs.lemmas.List.{length-set}
use Rattle.rpc_messages.specs.Waiting.{accepted}
use Rattle.rpc_messages.specs.declared.from_emacs.FromEmacs.{FromEmacs}
use Rattle.rpc_messages.specs.declared.from_emacs.FromEmacs.TheVariants as mail
use Rattle.rpc_messages.specs.declared.from_emacs.ThreadName.{ThreadName}
use Rattle.rpc_messages.specs.declared.from_emacs.ThreadName.TheVariants as name
use Rattle.rpc_messages.specs.declared.pattern.Pattern.{Pattern}
use Rattle.rpc_messages.specs.declared.pattern.Pattern.TheVariants as pattern
use Rattle.mailboxes.specs.Mail.{without_accepted, AllBefore}
use Rattle.term_model.specs.Label.{Label}
use Rattle.step_model.specs.Marks.{State}
use Rattle.step_model.specs.Moves as move
use Rattle.step_model.specs.Moves.{Move, Path, Phase, go, stay, mail_after}
use Rattle.step_model.specs.Now.{Mailbox, Now}
use Rattle.step_model.specs.Rules.{Rules}
use Rattle.step_model.specs.AsBuilt.{step_as_built}
use Rattle.step_model.proofs.Paths.{as_built_path}
use Rattle.session_model.specs.Arriving.{named, posted, requests, requests_by, answers, interrupts, arrives, arrives_as_built}
use Rattle.session_model.specs.Running.{after_step, interrupted, is_over, lends_thread, now_of, settles, step_of, steps_once, steps, unlent, bursts}
use Rattle.session_model.specs.World.{Thread, World, fresh, repl, thread_in, thread_at}
use Rattle.session_model.proofs.ArrivingLemmas.{arrived_either}
use Rattle.swank_core.specs.Live.{ArePlaced, IsPlaced}

-- ---- threads by number

pub set_same : {X : Type 0} (xs : List X) (i : ℕ) (y : X) → i < length xs → slice_get (slice_set xs i y) i ≡ Some y
set_same [] i y h = absurd (omega (arith, h))
set_same (x ∷ xs) zero y h = refl
set_same (x ∷ xs) (suc i) y h = set_same xs i y (omega (arith, h))

pub set_other : {X : Type 0} (xs : List X) (i j : ℕ) (y : X) → (j ≡ i → ⊥) → slice_get (slice_set xs i y) j ≡ slice_get xs j
set_other [] i j y h = refl
set_other (x ∷ xs) zero zero y h = absurd (h refl)
set_other (x ∷ xs) zero (suc j) y h = refl
set_other (x ∷ xs) (suc i) zero y h = refl
set_other (x ∷ xs) (suc i) (suc j) y h = set_other xs i j y (λ e. h (ap suc e))

push_other : {X : Type 0} (xs : List X) (y : X) (j : ℕ) → (j ≡ length xs → ⊥) → slice_get (xs ++ y ∷ []) j ≡ slice_get xs j
push_other [] y zero h = absurd (h refl)
push_other [] y (suc j) h = refl
push_other (x ∷ xs) y zero h = refl
push_other (x ∷ xs) y (suc j) h = push_other xs y j (λ e. h (ap suc e))

push_last : {X : Type 0} (xs : List X) (y : X) → slice_get (xs ++ y ∷ []) (length xs) ≡ Some y
push_last [] y = refl
push_last (x ∷ xs) y = push_last xs y

pub live_within : (threads : List (Option Thread)) (t : ℕ) (thread : Thread) → thread_in threads t ≡ Some thread → t < length threads
live_within threads t thread e = inside (slice_get threads t) refl e
  where
    inside : (o : Option (Option Thread)) → slice_get threads t ≡ o → option_map_or (λ x. x) o None ≡ Some thread → t < length threads
    inside None is e = absurd (none-some thread e)
    inside (Some x) is e = slice_get_within threads t x is

pub thread_set_same : (threads : List (Option Thread)) (t : ℕ) (o : Option Thread) → t < length threads → thread_in (slice_set threads t o) t ≡ o
thread_set_same threads t o h = ap (λ x. option_map_or (λ y. y) x None) (set_same threads t o h)

pub thread_set_other : (threads : List (Option Thread)) (t u : ℕ) (o : Option Thread) → (u ≡ t → ⊥) → thread_in (slice_set threads t o) u ≡ thread_in threads u
thread_set_other threads t u o ne = ap (λ x. option_map_or (λ y. y) x None) (set_other threads t u o ne)

set_past : {X : Type 0} (xs : List X) (i : ℕ) (y : X) → length xs ≤ i → slice_set xs i y ≡ xs
set_past [] i y h = refl
set_past (x ∷ xs) zero y h = absurd (omega (arith, h))
set_past (x ∷ xs) (suc i) y h = ap (λ ys. x ∷ ys) (set_past xs i y (omega (arith, h)))

-- ---- a change of the threads

pub placed_later : (at next : ℕ) (threads : List (Option Thread)) → at ≤ next → ArePlaced at threads → ArePlaced next threads
placed_later at next threads less h = λ t thread e. mail_later thread.mailbox (h t thread e)
  where
    mail_later : (mb : Mailbox) → AllBefore at mb → AllBefore next mb
    mail_later [] all = tt
    mail_later (entry ∷ mb) all = (omega (arith, less, all.0), mail_later mb all.1)

-- what holds of each live thread holds after a change of one, where it holds of that one
module _ (P : Thread → Type 0) where
  pub each_set : (threads : List (Option Thread)) (t : ℕ) (new : Thread) → ((u : ℕ) (thread : Thread) → thread_in threads u ≡ Some thread → P thread) → P new
      → (u : ℕ) (thread : Thread) → thread_in (slice_set threads t (Some new)) u ≡ Some thread → P thread
  each_set threads t new h p = λ u thread e.
      ⊎_elim
      (λ (same : u ≡ t).
      let inside : u < length (slice_set threads t (Some new)) = live_within (slice_set threads t (Some new)) u thread e in
      let here : thread_in (slice_set threads t (Some new)) t ≡ Some new = thread_set_same threads t (Some new) (omega (arith, inside, same, length-set threads t (Some new))) in
      subst P (same_Some new thread (sym here ∙ ap (thread_in (slice_set threads t (Some new))) (sym same) ∙ e)) p)
      (λ (ne : u ≡ t → ⊥). h u thread (sym (thread_set_other threads t u (Some new) ne) ∙ e))
      (cases_eq u t)

  pub each_less : (threads : List (Option Thread)) (t : ℕ) → ((u : ℕ) (thread : Thread) → thread_in threads u ≡ Some thread → P thread)
      → (u : ℕ) (thread : Thread) → thread_in (slice_set threads t None) u ≡ Some thread → P thread
  each_less threads t h = λ u thread e.
      ⊎_elim
      (λ (same : u ≡ t).
      let inside : u < length (slice_set threads t None) = live_within (slice_set threads t None) u thread e in
      let here : thread_in (slice_set threads t None) t ≡ None = thread_set_same threads t None (omega (arith, inside, same, length-set threads t None)) in
      absurd (none-some thread (sym here ∙ ap (thread_in (slice_set threads t None)) (sym same) ∙ e)))
      (λ (ne : u ≡ t → ⊥). h u thread (sym (thread_set_other threads t u None ne) ∙ e))
      (cases_eq u t)

  pub each_push : (threads : List (Option Thread)) (new : Thread) → ((u : ℕ) (thread : Thread) → thread_in threads u ≡ Some thread → P thread) → P new
      → (u : ℕ) (thread : Thread) → thread_in (threads ++ Some new ∷ []) u ≡ Some thread → P thread
  each_push threads new h p = λ u thread e.
      ⊎_elim
      (λ (same : u ≡ length threads).
      let here : slice_get (threads ++ Some new ∷ []) u ≡ Some (Some new) = ap (slice_get (threads ++ Some new ∷ [])) same ∙ push_last threads (Some new) in
      subst P (same_Some new thread (sym (ap (λ x. option_map_or (λ y. y) x None) here) ∙ e)) p)
      (λ (ne : u ≡ length threads → ⊥). h u thread (sym (ap (λ x. option_map_or (λ y. y) x None) (push_other threads (Some new) u ne)) ∙ e))
      (cases_eq u (length threads))

-- ---- messages

all_without_at : (p : Pattern) (at : ℕ) (entry : ℕ × FromEmacs) (mb : Mailbox) (taken : Bool) → AllBefore at (without_accepted p mb) → AllBefore at (entry ∷ mb)
    → AllBefore at (cond taken mb (entry ∷ without_accepted p mb))
all_without_at p at entry mb true later all = all.1
all_without_at p at entry mb false later all = (all.0, later)

all_without : (p : Pattern) (at : ℕ) (mb : Mailbox) → AllBefore at mb → AllBefore at (without_accepted p mb)
all_without p at [] all = tt
all_without p at (entry ∷ mb) all = all_without_at p at entry mb (accepted p entry.1) (all_without p at mb all.1) all

pub all_push : (at : ℕ) (mb : Mailbox) (m : FromEmacs) → AllBefore at mb → AllBefore (at + 1) (mb ++ (at, m) ∷ [])
all_push at [] m all = (omega arith, tt)
all_push at (entry ∷ mb) m all = (omega (arith, all.0), all_push at mb m all.1)

move_mail : (at : ℕ) (m : Move) (mb : Mailbox) → AllBefore at mb → AllBefore at (mail_after m mb)
move_mail at (move.Protects k) mb h = h
move_mail at (move.Turns k) mb h = h
move_mail at (move.Cleaned k) mb h = h
move_mail at (move.Asks kind tag text) mb h = h
move_mail at (move.Answered kind tag) mb h = h
move_mail at (move.Unasked kind tag) mb h = h
move_mail at (move.Begins i id p form name thread) mb h = all_without p at mb h
move_mail at (move.Ends i id reply) mb h = h
move_mail at (move.Aborts i id) mb h = h
move_mail at (move.Hears i p m) mb h = all_without p at mb h
move_mail at (move.Opens n m) mb h = h
move_mail at (move.Closes n) mb h = h
move_mail at (move.Announces n m) mb h = h
move_mail at (move.Writes w) mb h = h
move_mail at (move.Sweeps i id form name thread) mb h = all_without pattern.Rex at mb h

path_mail : {t : ℕ} {from : State} {ls : List Label} {to : State} {ph : Phase} (at : ℕ) → Path t from ls to ph → AllBefore at from.mailbox → AllBefore at to.mailbox
path_mail at stay h = h
path_mail at (go m ms s mb p e g) h = move_mail at m mb (path_mail at p h)

-- a step takes messages out and puts none in
pub step_mail : (rules : Rules) (at : ℕ) (n : Now) → AllBefore at n.mailbox → AllBefore at (step_as_built rules.built rules n).mailbox
step_mail rules at n h = path_mail at (as_built_path rules.built rules n).1 h

-- ---- events

interrupted_placed : (at n : ℕ) (thread : Thread) → IsPlaced at thread → IsPlaced at (interrupted built.levels n thread)
interrupted_placed at zero thread p = p
interrupted_placed at (suc n) thread p = p

pub lends_placed : (at : ℕ) (w : World) (seat t : ℕ) (o : Option Thread) → thread_at w t ≡ o → ArePlaced at w.threads → ArePlaced at (lends_thread built.levels w seat t o).after.threads
lends_placed at w seat t None e h = h
lends_placed at w seat t (Some thread) e h =
    each_set (IsPlaced at) w.threads t (record (interrupted built.levels thread.interrupts thread) { lent = Some seat }) h
    (interrupted_placed at thread.interrupts thread (h t thread e))

settles_placed : (at : ℕ) (w : World) (t : ℕ) (thread : Thread) (n : Now) (over : Bool) → ArePlaced at w.threads → IsPlaced at (after_step thread n) → ArePlaced at (settles w t thread n over).after.threads
settles_placed at w t thread n false h p = each_set (IsPlaced at) w.threads t (after_step thread n) h p
settles_placed at w t thread n true h p = each_less (IsPlaced at) w.threads t h

step_placed : (rules : Rules) (at : ℕ) (w : World) (t : ℕ) (o : Option Thread) → thread_at w t ≡ o → ArePlaced at w.threads → ArePlaced at (step_of rules w t o).after.threads
step_placed rules at w t None e h = h
step_placed rules at w t (Some thread) e h =
    let n : Now = step_as_built rules.built rules (now_of w t thread) in
    settles_placed at w t thread n (is_over t n) h (step_mail rules at (now_of w t thread) (h t thread e))

steps_placed : (rules : Rules) (at n t : ℕ) (w : World) → ArePlaced at w.threads → ArePlaced at (steps rules n t w).after.threads
steps_placed rules at zero t w h = h
steps_placed rules at (suc n) t w h = steps_placed rules at n t (steps_once rules w t).after (step_placed rules at w t (thread_at w t) refl h)

unlent_placed : (at : ℕ) (w : World) (t : ℕ) (o : Option Thread) → thread_at w t ≡ o → ArePlaced at w.threads → ArePlaced at (unlent w t o).threads
unlent_placed at w t None e h = h
unlent_placed at w t (Some thread) e h = each_set (IsPlaced at) w.threads t (record thread { lent = None }) h (h t thread e)

pub bursts_placed : (rules : Rules) (at : ℕ) (w : World) (t n : ℕ) → ArePlaced at w.threads → ArePlaced at (bursts rules w t n).after.threads
bursts_placed rules at w t n h =
    let v : World = (steps rules n t w).after in
    unlent_placed at v t (thread_at v t) refl (steps_placed rules at n t w h)

-- ---- arrivals

-- what holds after an arrival: it has one place more, and there is one thread more at most
pub record Arrived (at : ℕ) (old new : List (Option Thread)) : Type 0 where
  pub placed : ArePlaced (at + 1) new
  pub few : length new ≤ length old + 1

unchanged : (at : ℕ) (threads : List (Option Thread)) → ArePlaced at threads → Arrived at threads threads
unchanged at threads h = record { placed = placed_later at (at + 1) threads (omega arith) h; few = omega arith }

changed_one : (at t : ℕ) (threads : List (Option Thread)) (new : Thread) → ArePlaced at threads → IsPlaced (at + 1) new → Arrived at threads (slice_set threads t (Some new))
changed_one at t threads new h p = record {
  placed = each_set (IsPlaced (at + 1)) threads t new (placed_later at (at + 1) threads (omega arith) h) p;
  few = omega (arith, length-set threads t (Some new));
}

posted_placed : (at : ℕ) (thread : Thread) (m : FromEmacs) → IsPlaced at thread → IsPlaced (at + 1) (posted thread at m)
posted_placed at thread m p = all_push at thread.mailbox m p

requests_arrived : (w : World) (t : ℕ) (id : ℤ) (m : FromEmacs) (o : Option Thread) → thread_at w t ≡ o → ArePlaced w.places w.threads → Arrived w.places w.threads (requests w t id m o).after.threads
requests_arrived w t id m None e h = unchanged w.places w.threads h
requests_arrived w t id m (Some thread) e h = changed_one w.places t w.threads (posted thread w.places m) h (posted_placed w.places thread m (h t thread e))

answers_arrived : (w : World) (t : ℕ) (m : FromEmacs) (o : Option Thread) → thread_at w t ≡ o → ArePlaced w.places w.threads → Arrived w.places w.threads (answers w t m o).after.threads
answers_arrived w t m None e h = unchanged w.places w.threads h
answers_arrived w t m (Some thread) e h = changed_one w.places t w.threads (posted thread w.places m) h (posted_placed w.places thread m (h t thread e))

interrupts_arrived : (w : World) (t : ℕ) (o : Option Thread) → thread_at w t ≡ o → ArePlaced w.places w.threads → Arrived w.places w.threads (interrupts w t o).after.threads
interrupts_arrived w t None e h = unchanged w.places w.threads h
interrupts_arrived w t (Some thread) e h =
    changed_one w.places t w.threads (record thread { interrupts = thread.interrupts + 1 }) h (placed_later w.places (w.places + 1) w.threads (omega arith) h t thread e)

requests_by_arrived : (w : World) (id : ℤ) (m : FromEmacs) (thread : ThreadName) → ArePlaced w.places w.threads → Arrived w.places w.threads (requests_by w id m thread).after.threads
requests_by_arrived w id m name.New h = record {
  placed = each_push (IsPlaced (w.places + 1)) w.threads (fresh ((w.places, m) ∷ [])) (placed_later w.places (w.places + 1) w.threads (omega arith) h) (omega arith, tt);
  few = omega (arith, length-append w.threads (Some (fresh ((w.places, m) ∷ [])) ∷ []));
}
requests_by_arrived w id m name.Repl h = requests_arrived w repl id m (thread_at w repl) refl h
requests_by_arrived w id m (name.Id t) h = requests_arrived w t id m (thread_at w t) refl h

arrives_arrived : (w : World) (m : FromEmacs) → ArePlaced w.places w.threads → Arrived w.places w.threads (arrives w m).after.threads
arrives_arrived w (mail.Rex form «package» thread id) h = requests_by_arrived w id (mail.Rex form «package» thread id) thread h
arrives_arrived w (mail.Interrupt thread) h = interrupts_arrived w (named w thread) (thread_at w (named w thread)) refl h
arrives_arrived w (mail.ReturnString thread tag text) h = answers_arrived w (named w thread) (mail.ReturnString thread tag text) (thread_at w (named w thread)) refl h
arrives_arrived w (mail.Return thread tag value) h = answers_arrived w (named w thread) (mail.Return thread tag value) (thread_at w (named w thread)) refl h
arrives_arrived w (mail.Unreadable packet text) h = unchanged w.places w.threads h

pub arrived_arrived : (w : World) (m : FromEmacs) → ArePlaced w.places w.threads → Arrived w.places w.threads (arrives_as_built built w m).after.threads
arrived_arrived w m h = arrived_either (λ x. Arrived w.places w.threads x.after.threads) built w m (unchanged w.places w.threads h) (arrives_arrived w m h)
