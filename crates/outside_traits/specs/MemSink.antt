-- A sink in memory.
use Rattle.std.specs.Prelude.{ℕ, List, ◌++◌, take, Result, Ok, Err}
use Rattle.outside_traits.specs.Calls.{calls_after}
use Rattle.outside_traits.specs.declared.calls.Calls.{Calls}
use Rattle.outside_traits.specs.declared.failed.Failed.{Failed}

-- what was taken; how many octets a call takes at most; the calls of `write` and of `finish` together
pub record SinkState : Type 0 where
  pub taken : List ℕ
  pub at_most : ℕ
  pub calls : Calls

-- a write adds the octets that it took, and one that fails adds none
abbrev pub taken_after : List ℕ → Result ℕ Failed → List ℕ → List ℕ
taken_after taken (Ok n) piece = taken ++ take n piece
taken_after taken (Err _) piece = taken

-- the state after a write with this answer
abbrev pub after_write : SinkState → Result ℕ Failed → List ℕ → SinkState
after_write old result piece = record { taken = taken_after old.taken result piece; at_most = old.at_most; calls = calls_after old.calls result }

-- the state after a finish with this answer
abbrev pub after_finish : SinkState → Result Unit Failed → SinkState
after_finish old result = record old { calls = calls_after old.calls result }
