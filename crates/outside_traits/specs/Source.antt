-- What a read does to the octets that are left.
use Rattle.std.specs.Prelude.{◌≡◌, ◌==◌, ◌↔◌, ℕ, ◌≤◌, Bool, false, List, [], length, take, drop, Option, Result, Ok, Err}
use Rattle.outside_traits.specs.Told.{BothTold}
use Rattle.outside_traits.specs.declared.failed.Failed.{Failed}

-- n octets went from the front of what was left to the front of the buffer, none of them exactly where none was left
pub record Moves (old new buffer : List ℕ) (n : ℕ) : Type 0 where
  pub within : n ≤ length old
  pub front : take n buffer ≡ take n old
  pub rest : new ≡ drop n old
  pub at_end : (n ≡ 0) ↔ (old ≡ [])

-- a read moves the octets that it says, and one that fails leaves what is left
abbrev pub MovesIfOk : Result ℕ Failed → List ℕ → List ℕ → List ℕ → Type 0
MovesIfOk (Ok n) buffer old new = Moves old new buffer n
MovesIfOk (Err _) buffer old new = new ≡ old

-- so a read of a source that tells what is left, before and after
abbrev pub Reads : Option (List ℕ) → Option (List ℕ) → Result ℕ Failed → List ℕ → Type 0
Reads old new result buffer = BothTold old new (MovesIfOk result buffer)

-- whether a read met the end of input
abbrev pub ends : Result ℕ Failed → Bool
ends (Ok n) = n == 0
ends (Err _) = false
