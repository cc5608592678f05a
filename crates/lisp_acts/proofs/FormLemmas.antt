-- Forms of a list that is gone past, one by one.
use Rattle.std.proofs.Common.{◌≡◌, ℕ, suc, ◌+◌, ◌-◌, ◌<◌, ◌≤◌, List, [], ◌∷◌, drop, Option, Some, None, refl, sym, ap, ◌∙◌, arith}
use Rattle.std.specs.Prelude.{MatchOption, slice_get}

later : {X : Type 0} (xs : List X) (k : ℕ) → slice_get (drop 1 xs) k ≡ slice_get xs (suc k)
later [] k = refl
later (x ∷ xs) k = refl

-- past one more, what is sought stands one nearer
pub gone_past : {X : Type 0} (xs : List X) (number n : ℕ) → n < number → slice_get (drop 1 xs) (number - (n + 1)) ≡ slice_get xs (number - n)
gone_past xs number n h = later xs (number - (n + 1)) ∙ ap (slice_get xs) (let e : suc (number - (n + 1)) ≡ number - n = omega (arith, h) in e)

first_is : {X : Type 0} (xs : List X) (first : Option X) → MatchOption first (xs ≡ []) (λ x. xs ≡ x ∷ drop 1 xs) → first ≡ slice_get xs 0
first_is xs None h = sym (ap (λ ys. slice_get ys 0) h)
first_is xs (Some x) h = sym (ap (λ ys. slice_get ys 0) h)

-- what is sought is the first that is left
pub found_first : {X : Type 0} (xs : List X) (first : Option X) (number n : ℕ) → number ≤ n → MatchOption first (xs ≡ []) (λ x. xs ≡ x ∷ drop 1 xs) → first ≡ slice_get xs (number - n)
found_first xs first number n h m = first_is xs first m ∙ ap (slice_get xs) (let e : 0 ≡ number - n = omega (arith, h) in e)
