-- A source in memory.
use Rattle.std.specs.Prelude.{◌≡◌, ℕ, ◌<◌, min, Bool, true, false, List, [], ◌∷◌, length, drop, filter, flat_map, slice_get, IfSome, Result, Ok, Err}
use Rattle.outside_traits.specs.Calls.{calls_after}
use Rattle.outside_traits.specs.Source.{ends}
use Rattle.outside_traits.specs.declared.calls.Calls.{Calls}
use Rattle.outside_traits.specs.declared.failed.Failed.{Failed}

-- the pieces that are left, none of them empty and the first as far as it is not read; the calls; whether the newest met the end
pub record SourceState : Type 0 where
  pub pieces : List (List ℕ)
  pub calls : Calls
  pub ended : Bool

-- the octets of pieces, in order
abbrev pub octets_of : List (List ℕ) → List ℕ
octets_of pieces = flat_map (λ piece. piece) pieces

-- whether a piece holds an octet
abbrev pub is_filled : List ℕ → Bool
is_filled [] = false
is_filled (_ ∷ _) = true

-- the pieces that are not empty
abbrev pub filled : List (List ℕ) → List (List ℕ)
filled pieces = filter is_filled pieces

-- pieces without the first octets of the first piece
abbrev pub cut_by : ℕ → List (List ℕ) → List (List ℕ)
cut_by n [] = []
cut_by n (piece ∷ pieces) = drop n piece ∷ pieces

-- the pieces that are left from octet number from of piece number at on, none of them empty
abbrev pub pieces_from : List (List ℕ) → ℕ → ℕ → List (List ℕ)
pieces_from pieces at from = filled (cut_by from (drop at pieces))

-- a read into a buffer gives what is left of the first piece, as far as the buffer has room
abbrev pub count_given : ℕ → List (List ℕ) → ℕ
count_given room [] = 0
count_given room (piece ∷ _) = min (length piece) room

-- a read drops the octets that it gave, and one that fails drops none
abbrev pub pieces_after : List (List ℕ) → Result ℕ Failed → List (List ℕ)
pieces_after pieces (Ok n) = filled (cut_by n pieces)
pieces_after pieces (Err _) = pieces

-- the state after a read with this answer
abbrev pub after_read : SourceState → Result ℕ Failed → SourceState
after_read old result = record { pieces = pieces_after old.pieces result; calls = calls_after old.calls result; ended = ends result }

-- the first octet of what is left stands at this place
pub record IsAt (pieces left : List (List ℕ)) (at from : ℕ) : Type 0 where
  pub in_range : at < length pieces
  pub in_piece : IfSome (slice_get pieces at) (λ piece. from < length piece)
  pub is : pieces_from pieces at from ≡ left
