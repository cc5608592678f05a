-- Live threads as they are kept: in order of number, with no place for those that have ended.
use Rattle.std.specs.Prelude.{ℕ, Bool, ◌+◌, ◌<◌, ◌≤◌, ◌==◌, if◌then◌else◌, List, [], ◌∷◌, map, Option, Some, None}
use Rattle.session_model.specs.Pipe.{numbers}

-- what is found at a number, among kept ones with a number and a value each
abbrev pub found : {R X : Type 0} → (R → ℕ) → (R → X) → List R → ℕ → Option X
found number value [] t = None
found number value (r ∷ rs) t = if number r == t then Some (value r) else found number value rs t

-- what is found at each of the first n numbers
abbrev pub by_number : {R X : Type 0} → (R → ℕ) → (R → X) → ℕ → List R → List (Option X)
by_number number value n rs = map (found number value rs) (numbers n 0)

-- the numbers rise, from this one on, and are below n
abbrev pub AreRising : {R : Type 0} → (R → ℕ) → ℕ → ℕ → List R → Type 0
AreRising number from n [] = Unit {0}
AreRising number from n (r ∷ rs) = (from ≤ number r) × (number r < n) × AreRising number (number r + 1) n rs

-- the numbers rise, from this one on
abbrev pub AreAscending : {R : Type 0} → (R → ℕ) → ℕ → List R → Type 0
AreAscending number from [] = Unit {0}
AreAscending number from (r ∷ rs) = (from ≤ number r) × AreAscending number (number r + 1) rs

-- the number of the first kept one that passes
abbrev pub first : {R X : Type 0} → (R → ℕ) → (R → X) → (X → Bool) → List R → Option ℕ
first number value test [] = None
first number value test (r ∷ rs) = if test (value r) then Some (number r) else first number value test rs
