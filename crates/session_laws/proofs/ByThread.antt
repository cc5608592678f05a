-- What labels say of one thread each, counted for one thread and for all.
use Rattle.std.proofs.Common.{◌≡◌, ℕ, zero, suc, ◌+◌, ◌≤◌, ◌≢◌, ⊎_elim, Bool, ◌&&◌, List, [], ◌∷◌, refl, sym, ap, arith}
use Rattle.std.specs.Prelude.{◌==◌}
use Rattle.std.proofs.lemmas.Bool.{cases_eq}
use Rattle.session_laws.specs.Counting.{count, tally}
use Rattle.session_laws.proofs.Counts.{other, own}

-- an item says it of no thread, or of one
pub data Says {X : Type 0} (f : ℕ → X → Bool) (any : X → Bool) (x : X) : Type 0 where
  silent : tally (any x) ≡ 0 → ((t : ℕ) → tally (f t x) ≡ 0) → Says f any x
  of_one : (t : ℕ) → tally (f t x) ≡ tally (any x) → ((u : ℕ) → u ≢ t → tally (f u x) ≡ 0) → Says f any x

module _ {X : Type 0} (f : ℕ → X → Bool) (any : X → Bool) (says : (x : X) → Says f any x) where
  -- of one thread no more than of all
  pub one_of_all : (t : ℕ) (xs : List X) → count (f t) xs ≤ count any xs
  one_of_all t [] = omega arith
  one_of_all t (x ∷ xs) = by (says x) (one_of_all t xs)
    where
      by : Says f any x → count (f t) xs ≤ count any xs → tally (f t x) + count (f t) xs ≤ tally (any x) + count any xs
      by (silent a none) le = omega (arith, none t, le)
      by (of_one u is none) le = ⊎_elim (λ (e : t ≡ u). omega (arith, ap (λ v. tally (f v x)) e, is, le)) (λ (ne : t ≢ u). omega (arith, none t ne, le)) (cases_eq t u)

  -- where it is said of no other thread, as often as of all
  pub all_of_one : (t : ℕ) (xs : List X) → ((u : ℕ) → u ≢ t → count (f u) xs ≡ 0) → count any xs ≡ count (f t) xs
  all_of_one t [] h = refl
  all_of_one t (x ∷ xs) h = by (says x) (all_of_one t xs (λ u ne. omega (arith, h u ne)))
    where
      by : Says f any x → count any xs ≡ count (f t) xs → tally (any x) + count any xs ≡ tally (f t x) + count (f t) xs
      by (silent a none) e = omega (arith, a, none t, e)
      by (of_one u is none) e = ⊎_elim (λ (same : u ≡ t). omega (arith, ap (λ v. tally (f v x)) same, is, e)) (λ (ne : u ≢ t). omega (arith, h u ne, is, none t (λ same. ne (sym same)), e)) (cases_eq u t)

  -- where it is said once at most, no thread but one has it
  pub owner : (xs : List X) → count any xs ≤ 1 → (t : ℕ) × ((u : ℕ) → u ≢ t → count (f u) xs ≡ 0)
  owner [] le = (0, λ u ne. refl)
  owner (x ∷ xs) le = by (says x) (owner xs (omega (arith, le)))
    where
      by_rest : (n : ℕ) → tally (any x) ≡ n → (t : ℕ) → tally (f t x) ≡ tally (any x) → ((u : ℕ) → u ≢ t → tally (f u x) ≡ 0) → (s : ℕ) × ((u : ℕ) → u ≢ s → count (f u) xs ≡ 0) → (s : ℕ) × ((u : ℕ) → u ≢ s → tally (f u x) + count (f u) xs ≡ 0)
      by_rest zero e t is none rest = (rest.0, λ u ne. ⊎_elim (λ (same : u ≡ t). omega (arith, ap (λ v. tally (f v x)) same, is, e, rest.1 u ne)) (λ (no : u ≢ t). omega (arith, none u no, rest.1 u ne)) (cases_eq u t))
      by_rest (suc n) e t is none rest = (t, λ u ne. omega (arith, none u ne, one_of_all u xs, le, e))

      by : Says f any x → (s : ℕ) × ((u : ℕ) → u ≢ s → count (f u) xs ≡ 0) → (s : ℕ) × ((u : ℕ) → u ≢ s → tally (f u x) + count (f u) xs ≡ 0)
      by (silent a none) rest = (rest.0, λ u ne. omega (arith, none u, rest.1 u ne))
      by (of_one t is none) rest = by_rest (tally (any x)) refl t is none rest

-- a test of a thread and a number
pub says_test : (u : ℕ) (b : Bool) → ((t : ℕ) → t ≢ u → tally ((u == t) && b) ≡ 0) × (tally ((u == u) && b) ≡ tally b)
says_test u b = (λ t ne. other t u b ne, own u b)
