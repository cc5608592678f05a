-- What a write does to the octets that are written.
use Rattle.std.specs.Prelude.{◌≡◌, ℕ, List, ◌++◌, take, Option, Result, Ok, Err}
use Rattle.outside_traits.specs.Told.{BothTold}
use Rattle.outside_traits.specs.declared.failed.Failed.{Failed}
use Rattle.outside_traits.specs.declared.sink.CutShort.{CutShort}

-- a write adds the octets of the piece's front that it says, and one that fails leaves what is written
abbrev pub AddsIfOk : Result ℕ Failed → List ℕ → List ℕ → List ℕ → Type 0
AddsIfOk (Ok n) piece old new = new ≡ old ++ take n piece
AddsIfOk (Err _) piece old new = new ≡ old

-- so a write to a sink that tells what is written, before and after
abbrev pub Writes : Option (List ℕ) → Option (List ℕ) → Result ℕ Failed → List ℕ → Type 0
Writes old new result piece = BothTold old new (AddsIfOk result piece)

-- what was taken of a piece: the whole, or the octets before a failure
abbrev pub part_taken : Result Unit CutShort → List ℕ → List ℕ
part_taken (Ok _) piece = piece
part_taken (Err cut) piece = take cut.taken piece
