-- Who is lent: an event lends no thread but the one that it names, and a burst ends the loan.
use Rattle.std.proofs.Common.{◌≡◌, ◌≢◌, ℕ, ℤ, zero, suc, ◌+◌, Bool, true, false, List, [], ◌∷◌, ◌++◌, length, Option, Some, None, ⊎_elim, refl, sym, ap, ◌∙◌, subst}
use Rattle.std.specs.Prelude.{slice_get, slice_set, unwrap_or}
use Rattle.std.specs.Option.{option_map_or}
use Rattle.std.proofs.lemmas.Bool.{cases_eq}
use Rattle.std.proofs.lemmas.Option.{none-some}
use Rattle.rpc_messages.specs.declared.from_emacs.FromEmacs.{FromEmacs}
use Rattle.rpc_messages.specs.declared.from_emacs.FromEmacs.TheVariants as mail
use Rattle.rpc_messages.specs.declared.from_emacs.ThreadName.{ThreadName}
use Rattle.rpc_messages.specs.declared.from_emacs.ThreadName.TheVariants as name
use Rattle.step_model.specs.Built.{Built}
use Rattle.step_model.specs.Now.{Now}
use Rattle.step_model.specs.Rules.{Rules}
use Rattle.step_model.specs.AsBuilt.{step_as_built}
use Rattle.session_model.specs.Arriving.{named, posted, requests, requests_by, answers, interrupts, arrives, arrives_as_built}
use Rattle.session_model.specs.Running.{interrupted, after_step, lends_thread, now_of, settles, is_over, step_of, steps_once, steps, unlent, bursts}
use Rattle.session_model.specs.World.{Thread, World, fresh, repl, thread_in, thread_at}
use Rattle.session_model.proofs.ArrivingLemmas.{arrived_either}

-- ---- threads by number

set_same : {X : Type 0} (xs : List X) (i : ℕ) (x y : X) → slice_get xs i ≡ Some x → slice_get (slice_set xs i y) i ≡ Some y
set_same [] i x y e = absurd (none-some x e)
set_same (z ∷ xs) zero x y e = refl
set_same (z ∷ xs) (suc i) x y e = set_same xs i x y e

set_past : {X : Type 0} (xs : List X) (i : ℕ) (y : X) → slice_get xs i ≡ None → slice_get (slice_set xs i y) i ≡ None
set_past [] i y e = refl
set_past (z ∷ xs) zero y e = absurd (none-some z (sym e))
set_past (z ∷ xs) (suc i) y e = set_past xs i y e

set_other : {X : Type 0} (xs : List X) (i j : ℕ) (y : X) → i ≢ j → slice_get (slice_set xs i y) j ≡ slice_get xs j
set_other [] i j y h = refl
set_other (x ∷ xs) zero zero y h = absurd (h refl)
set_other (x ∷ xs) zero (suc j) y h = refl
set_other (x ∷ xs) (suc i) zero y h = refl
set_other (x ∷ xs) (suc i) (suc j) y h = set_other xs i j y (λ e. h (ap suc e))

-- a thread that isn't lent, or none
abbrev pub IsFree : Option Thread → Type 0
IsFree None = Unit {0}
IsFree (Some thread) = thread.lent ≡ None

-- no thread is lent but this one
abbrev pub NoneLent : Option ℕ → List (Option Thread) → Type 0
NoneLent o threads = (u : ℕ) → o ≢ Some u → IsFree (thread_in threads u)

-- a thread in another's place
set_free : (o : Option ℕ) (threads : List (Option Thread)) (t : ℕ) (new : Option Thread) → (o ≢ Some t → IsFree new) → NoneLent o threads → NoneLent o (slice_set threads t new)
set_free o threads t new free h u ne = ⊎_elim same other (cases_eq u t)
  where
    here : (x : Option (Option Thread)) → slice_get threads t ≡ x → o ≢ Some t → IsFree (thread_in (slice_set threads t new) t)
    here None is ne = subst (λ y. IsFree (option_map_or (λ thread. thread) y None)) (sym (set_past threads t new is)) tt
    here (Some x) is ne = subst (λ y. IsFree (option_map_or (λ thread. thread) y None)) (sym (set_same threads t x new is)) (free ne)

    same : u ≡ t → IsFree (thread_in (slice_set threads t new) u)
    same e = subst (λ v. IsFree (thread_in (slice_set threads t new) v)) (sym e) (here (slice_get threads t) refl (subst (λ v. o ≢ Some v) e ne))

    other : u ≢ t → IsFree (thread_in (slice_set threads t new) u)
    other differs = subst (λ y. IsFree (option_map_or (λ thread. thread) y None)) (sym (set_other threads t u new (λ e. differs (sym e)))) (h u ne)

append_last : {X : Type 0} (xs : List X) (y : X) → slice_get (xs ++ y ∷ []) (length xs) ≡ Some y
append_last [] y = refl
append_last (x ∷ xs) y = append_last xs y

append_other : {X : Type 0} (xs : List X) (y : X) (j : ℕ) → length xs ≢ j → slice_get (xs ++ y ∷ []) j ≡ slice_get xs j
append_other [] y zero h = absurd (h refl)
append_other [] y (suc j) h = refl
append_other (x ∷ xs) y zero h = refl
append_other (x ∷ xs) y (suc j) h = append_other xs y j (λ e. h (ap suc e))

add_free : (o : Option ℕ) (threads : List (Option Thread)) (new : Option Thread) → IsFree new → NoneLent o threads → NoneLent o (threads ++ new ∷ [])
add_free o threads new free h u ne = ⊎_elim last other (cases_eq u (length threads))
  where
    last : u ≡ length threads → IsFree (thread_in (threads ++ new ∷ []) u)
    last e = subst (λ v. IsFree (thread_in (threads ++ new ∷ []) v)) (sym e) (subst (λ y. IsFree (option_map_or (λ thread. thread) y None)) (sym (append_last threads new)) free)

    other : u ≢ length threads → IsFree (thread_in (threads ++ new ∷ []) u)
    other differs = subst (λ y. IsFree (option_map_or (λ thread. thread) y None)) (sym (append_other threads new u (λ e. differs (sym e)))) (h u ne)

-- ---- arrivals

-- a thread in the state of another with the same loan
keeps_free : (o : Option ℕ) (w : World) (t : ℕ) (thread new : Thread) → thread_at w t ≡ Some thread → new.lent ≡ thread.lent → NoneLent o w.threads → NoneLent o (slice_set w.threads t (Some new))
keeps_free o w t thread new is same h = set_free o w.threads t (Some new) (λ ne. same ∙ subst IsFree is (h t ne)) h

requests_free : (o : Option ℕ) (w : World) (t : ℕ) (id : ℤ) (m : FromEmacs) (x : Option Thread) → thread_at w t ≡ x → NoneLent o w.threads → NoneLent o (requests w t id m x).after.threads
requests_free o w t id m (Some thread) is h = keeps_free o w t thread (posted thread w.places m) is refl h
requests_free o w t id m None is h = h

requests_by_free : (o : Option ℕ) (w : World) (id : ℤ) (m : FromEmacs) (thread : ThreadName) → NoneLent o w.threads → NoneLent o (requests_by w id m thread).after.threads
requests_by_free o w id m name.New h = add_free o w.threads (Some (fresh ((w.places, m) ∷ []))) refl h
requests_by_free o w id m name.Repl h = requests_free o w repl id m (thread_at w repl) refl h
requests_by_free o w id m (name.Id t) h = requests_free o w t id m (thread_at w t) refl h

answers_free : (o : Option ℕ) (w : World) (t : ℕ) (m : FromEmacs) (x : Option Thread) → thread_at w t ≡ x → NoneLent o w.threads → NoneLent o (answers w t m x).after.threads
answers_free o w t m (Some thread) is h = keeps_free o w t thread (posted thread w.places m) is refl h
answers_free o w t m None is h = h

interrupts_free : (o : Option ℕ) (w : World) (t : ℕ) (x : Option Thread) → thread_at w t ≡ x → NoneLent o w.threads → NoneLent o (interrupts w t x).after.threads
interrupts_free o w t (Some thread) is h = keeps_free o w t thread (record thread { interrupts = thread.interrupts + 1 }) is refl h
interrupts_free o w t None is h = h

arrives_free : (o : Option ℕ) (w : World) (m : FromEmacs) → NoneLent o w.threads → NoneLent o (arrives w m).after.threads
arrives_free o w (mail.Rex form «package» thread id) h = requests_by_free o w id (mail.Rex form «package» thread id) thread h
arrives_free o w (mail.Interrupt thread) h = interrupts_free o w (named w thread) (thread_at w (named w thread)) refl h
arrives_free o w (mail.ReturnString thread tag text) h = answers_free o w (named w thread) (mail.ReturnString thread tag text) (thread_at w (named w thread)) refl h
arrives_free o w (mail.Return thread tag value) h = answers_free o w (named w thread) (mail.Return thread tag value) (thread_at w (named w thread)) refl h
arrives_free o w (mail.Unreadable packet text) h = h

pub arrived_free : (o : Option ℕ) (built : Built) (w : World) (m : FromEmacs) → NoneLent o w.threads → NoneLent o (arrives_as_built built w m).after.threads
arrived_free o built w m h = arrived_either (λ x. NoneLent o x.after.threads) built w m h (arrives_free o w m h)

-- ---- loans

-- nobody is lent, and then this thread is
pub lends_free : (most : ℕ) (w : World) (seat t : ℕ) (x : Option Thread) → NoneLent None w.threads → NoneLent (Some t) (lends_thread most w seat t x).after.threads
lends_free most w seat t (Some thread) h = set_free (Some t) w.threads t (Some (record (interrupted most thread.interrupts thread) { lent = Some seat })) (λ ne. absurd (ne refl)) (λ u ne. h u (λ e. none-some u e))
lends_free most w seat t None h = λ u ne. h u (λ e. none-some u e)

settles_free : (o : Option ℕ) (w : World) (t : ℕ) (thread : Thread) (n : Now) (over : Bool) → thread_at w t ≡ Some thread → NoneLent o w.threads → NoneLent o (settles w t thread n over).after.threads
settles_free o w t thread n false is h = set_free o w.threads t (Some (after_step thread n)) (λ ne. subst IsFree is (h t ne)) h
settles_free o w t thread n true is h = set_free o w.threads t None (λ ne. tt) h

step_free : (o : Option ℕ) (rules : Rules) (w : World) (t : ℕ) (x : Option Thread) → thread_at w t ≡ x → NoneLent o w.threads → NoneLent o (step_of rules w t x).after.threads
step_free o rules w t (Some thread) is h = let n : Now = step_as_built rules.built rules (now_of w t thread) in settles_free o w t thread n (is_over t n) is h
step_free o rules w t None is h = h

steps_free : (o : Option ℕ) (rules : Rules) (n t : ℕ) (w : World) → NoneLent o w.threads → NoneLent o (steps rules n t w).after.threads
steps_free o rules zero t w h = h
steps_free o rules (suc n) t w h = steps_free o rules n t (steps_once rules w t).after (step_free o rules w t (thread_at w t) refl h)

some_is : (t u : ℕ) → Some t ≡ Some u → t ≡ u
some_is t u e = ap (λ o. unwrap_or o t) e

-- once the only thread that was lent is given back
gives_back : (w : World) (t : ℕ) (x : Option Thread) → thread_at w t ≡ x → NoneLent (Some t) w.threads → NoneLent None (unlent w t x).threads
gives_back w t x is h u ne = ⊎_elim (same x is) (other x) (cases_eq u t)
  where
    same : (x : Option Thread) → thread_at w t ≡ x → u ≡ t → IsFree (thread_in (unlent w t x).threads u)
    same None is e = subst IsFree (sym is ∙ ap (thread_in w.threads) (sym e)) tt
    same (Some thread) is e = subst (λ v. IsFree (thread_in (slice_set w.threads t (Some (record thread { lent = None }))) v)) (sym e)
        (within (slice_get w.threads t) refl)
      where
        within : (y : Option (Option Thread)) → slice_get w.threads t ≡ y → IsFree (thread_in (slice_set w.threads t (Some (record thread { lent = None }))) t)
        within None at = subst (λ z. IsFree (option_map_or (λ thread. thread) z None)) (sym (set_past w.threads t (Some (record thread { lent = None })) at)) tt
        within (Some y) at = subst (λ z. IsFree (option_map_or (λ thread. thread) z None)) (sym (set_same w.threads t y (Some (record thread { lent = None })) at)) refl

    other : (x : Option Thread) → u ≢ t → IsFree (thread_in (unlent w t x).threads u)
    other None differs = h u (λ e. differs (sym (some_is t u e)))
    other (Some thread) differs = subst (λ z. IsFree (option_map_or (λ thread. thread) z None)) (sym (set_other w.threads t u (Some (record thread { lent = None })) (λ e. differs (sym e)))) (h u (λ e. differs (sym (some_is t u e))))

pub bursts_free : (rules : Rules) (w : World) (t n : ℕ) → NoneLent (Some t) w.threads → NoneLent None (bursts rules w t n).after.threads
bursts_free rules w t n h = let v : World = (steps rules n t w).after in gives_back v t (thread_at v t) refl (steps_free (Some t) rules n t w h)
