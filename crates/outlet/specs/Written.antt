-- What a batch of texts leaves written.
use Rattle.std.specs.Prelude.{ℕ, List, take, Result, Ok, Err}
use Rattle.outlet.specs.declared.texts.WriteFailure.{WriteFailure}

-- what was written of a batch's octets: all of them, or as many as were sent before a failure
abbrev pub part_sent : Result ℕ WriteFailure → List ℕ → List ℕ
part_sent (Ok _) octets = octets
part_sent (Err failure) octets = take failure.sent octets
