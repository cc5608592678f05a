-- Threads by number.
use Rattle.std.proofs.Common.{◌≡◌, ℕ, zero, suc, ◌<◌, ◌≢◌, List, [], ◌∷◌, ◌++◌, length, Option, Some, None, refl, ap, arith}
use Rattle.std.specs.Prelude.{slice_get, slice_set}
use Rattle.std.specs.Option.{option_map_or}
use Rattle.std.proofs.lemmas.Option.{slice_get-get_or}
use Rattle.std.proofs.lemmas.Grind.{common_steps}
use Rattle.session_model.specs.World.{Thread, thread_in}
use Rattle.session_laws.specs.Seen.{Seen, Unborn, Gone, seen, seen_in}

pub get-set_same : {X : Type 0} (xs : List X) (i : ℕ) (y : X) → i < length xs → slice_get (slice_set xs i y) i ≡ Some y
get-set_same xs i y h = grind (arith, common_steps, slice_get-get_or (slice_set xs i y) i y)

pub get-set_other : {X : Type 0} (xs : List X) (i j : ℕ) (y : X) → i ≢ j → slice_get (slice_set xs i y) j ≡ slice_get xs j
get-set_other [] i j y h = refl
get-set_other (x ∷ xs) zero zero y h = absurd (h refl)
get-set_other (x ∷ xs) zero (suc j) y h = refl
get-set_other (x ∷ xs) (suc i) zero y h = refl
get-set_other (x ∷ xs) (suc i) (suc j) y h = get-set_other xs i j y (λ e. h (ap suc e))

pub get-append_other : {X : Type 0} (xs : List X) (y : X) (j : ℕ) → length xs ≢ j → slice_get (xs ++ y ∷ []) j ≡ slice_get xs j
get-append_other [] y zero h = absurd (h refl)
get-append_other [] y (suc j) h = refl
get-append_other (x ∷ xs) y zero h = refl
get-append_other (x ∷ xs) y (suc j) h = get-append_other xs y j (λ e. h (ap suc e))

pub get-append_last : {X : Type 0} (xs : List X) (y : X) → slice_get (xs ++ y ∷ []) (length xs) ≡ Some y
get-append_last [] y = refl
get-append_last (x ∷ xs) y = get-append_last xs y

found_at : (o : Option (Option Thread)) (thread : Thread) → option_map_or (λ thread. thread) o None ≡ Some thread → o ≡ Some (Some thread)
found_at None thread e = absurd (cc)
found_at (Some None) thread e = absurd (cc)
found_at (Some (Some other)) thread e = ap Some e

-- a live thread stands at its number
pub found : (threads : List (Option Thread)) (t : ℕ) (thread : Thread) → thread_in threads t ≡ Some thread → slice_get threads t ≡ Some (Some thread)
found threads t thread e = found_at (slice_get threads t) thread e

not_live_at : (o : Option (Option Thread)) → option_map_or (λ thread. thread) o None ≡ None → (P : Seen → Type 0) → P Unborn → P Gone → P (seen o)
not_live_at None e P unborn gone = unborn
not_live_at (Some None) e P unborn gone = gone
not_live_at (Some (Some thread)) e P unborn gone = absurd (cc)

-- what holds of a thread that isn't made yet and of one that has ended holds of each that isn't live
pub not_live : (threads : List (Option Thread)) (t : ℕ) → thread_in threads t ≡ None → (P : Seen → Type 0) → P Unborn → P Gone → P (seen_in threads t)
not_live threads t e P unborn gone = not_live_at (slice_get threads t) e P unborn gone

pub live_at : (threads : List (Option Thread)) (t : ℕ) (thread : Thread) → slice_get threads t ≡ Some (Some thread) → thread_in threads t ≡ Some thread
live_at threads t thread e = ap (λ o. option_map_or (λ (x : Option Thread). x) o None) e
