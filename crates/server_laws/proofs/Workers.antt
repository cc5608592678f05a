-- Each worker is live.
use Rattle.std.proofs.Common.{◌≡◌, ◌≢◌, ℕ, ◌<◌, Bool, true, false, ⊎_elim, List, [], ◌∷◌, ◌++◌, length, Option, Some, None, refl, sym, subst}
use Rattle.std.specs.Prelude.{◌==◌, cond, if◌then◌else◌, not, slice_get, slice_set}
use Rattle.std.specs.Option.{option_map_or}
use Rattle.std.proofs.lemmas.Bool.{cases_eq, eqb-false}
use Rattle.session_laws.proofs.Threads.{found, get-append_last, get-append_other, get-set_other, get-set_same}
use Rattle.session_model.specs.Arriving.{workers_after, workers_without}
use Rattle.session_model.specs.World.{Thread, repl, thread_in}

-- a live thread stands there
abbrev pub IsLive : Option (Option Thread) → Type 0
IsLive (Some (Some thread)) = Unit {0}
IsLive _ = ⊥

abbrev pub AreLive : List (Option Thread) → List ℕ → Type 0
AreLive threads [] = Unit {0}
AreLive threads (t ∷ ts) = IsLive (slice_get threads t) × AreLive threads ts

-- a thread that stands stays when a live one takes a place
set_live : (threads : List (Option Thread)) (t u : ℕ) (thread : Thread) → t < length threads → IsLive (slice_get threads u) → IsLive (slice_get (slice_set threads t (Some thread)) u)
set_live threads t u thread within h =
    ⊎_elim
    (λ (e : u ≡ t). subst (λ v. IsLive (slice_get (slice_set threads t (Some thread)) v)) (sym e) (subst IsLive (sym (get-set_same threads t (Some thread) within)) tt))
    (λ (ne : u ≢ t). subst IsLive (sym (get-set_other threads t u (Some thread) (λ e. ne (sym e)))) h)
    (cases_eq u t)

pub set_all : (threads : List (Option Thread)) (t : ℕ) (thread : Thread) (ts : List ℕ) → t < length threads → AreLive threads ts → AreLive (slice_set threads t (Some thread)) ts
set_all threads t thread [] within h = tt
set_all threads t thread (u ∷ ts) within h = (set_live threads t u thread within h.0, set_all threads t thread ts within h.1)

add_live : (threads : List (Option Thread)) (thread : Thread) (u : ℕ) → IsLive (slice_get threads u) → IsLive (slice_get (threads ++ Some thread ∷ []) u)
add_live threads thread u h =
    ⊎_elim
    (λ (e : u ≡ length threads). subst (λ v. IsLive (slice_get (threads ++ Some thread ∷ []) v)) (sym e) (subst IsLive (sym (get-append_last threads (Some thread))) tt))
    (λ (ne : u ≢ length threads). subst IsLive (sym (get-append_other threads (Some thread) u (λ e. ne (sym e)))) h)
    (cases_eq u (length threads))

pub add_all : (threads : List (Option Thread)) (thread : Thread) (ts : List ℕ) → AreLive threads ts → AreLive (threads ++ Some thread ∷ []) ts
add_all threads thread [] h = tt
add_all threads thread (u ∷ ts) h = (add_live threads thread u h.0, add_all threads thread ts h.1)

pub added_live : (threads : List (Option Thread)) (thread : Thread) → IsLive (slice_get (threads ++ Some thread ∷ []) (length threads))
added_live threads thread = subst IsLive (sym (get-append_last threads (Some thread))) tt

without_if : (b : Bool) (threads : List (Option Thread)) (u : ℕ) (ts rest : List ℕ) → IsLive (slice_get threads u) → AreLive threads rest → AreLive threads (cond (not b) (u ∷ rest) rest)
without_if true threads u ts rest h k = k
without_if false threads u ts rest h k = (h, k)

without_live : (threads : List (Option Thread)) (t : ℕ) (ts : List ℕ) → AreLive threads ts → AreLive threads (workers_without t ts)
without_live threads t [] h = tt
without_live threads t (u ∷ ts) h = without_if (u == t) threads u ts (workers_without t ts) h.0 (without_live threads t ts h.1)

ended_if : (b : Bool) (threads : List (Option Thread)) (t u : ℕ) (rest : List ℕ) → (u == t) ≡ b → IsLive (slice_get threads u) → AreLive (slice_set threads t None) rest → AreLive (slice_set threads t None) (cond (not b) (u ∷ rest) rest)
ended_if true threads t u rest e h k = k
ended_if false threads t u rest e h k = (subst IsLive (sym (get-set_other threads t u None (λ same. eqb-false u t e (sym same)))) h, k)

-- the workers but one, once that has ended
pub ended_all : (threads : List (Option Thread)) (t : ℕ) (ts : List ℕ) → AreLive threads ts → AreLive (slice_set threads t None) (workers_without t ts)
ended_all threads t [] h = tt
ended_all threads t (u ∷ ts) h = ended_if (u == t) threads t u (workers_without t ts) refl h.0 (ended_all threads t ts h.1)

-- the workers once a request went to one
pub after_live : (threads : List (Option Thread)) (t : ℕ) (ts : List ℕ) → IsLive (slice_get threads t) → AreLive threads ts → AreLive threads (workers_after t ts)
after_live threads t ts h k = by_test (t == repl)
  where
    by_test : (b : Bool) → AreLive threads (if b then ts else t ∷ workers_without t ts)
    by_test true = k
    by_test false = (h, without_live threads t ts k)

pub live_found : (threads : List (Option Thread)) (t : ℕ) (thread : Thread) → thread_in threads t ≡ Some thread → IsLive (slice_get threads t)
live_found threads t thread e = subst IsLive (sym (found threads t thread e)) tt

-- where no live thread stands there is none
pub not_live : (o : Option (Option Thread)) → option_map_or (λ thread. thread) o None ≡ None → IsLive o → ⊥
not_live None e h = h
not_live (Some None) e h = h
not_live (Some (Some thread)) e h = absurd (cc)
