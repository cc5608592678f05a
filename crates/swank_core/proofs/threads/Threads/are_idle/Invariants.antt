use Rattle.std.proofs.Common.{◌≡◌, drop}
use Rattle.session_model.specs.Legal.{are_idle}
use Rattle.swank_core.proofs.TableLemmas.{lives}
use Rattle.swank_core.proofs.threads.Threads.are_idle.Given as goal

abbrev pub invariant-loop-record : goal.invariant-loop-record
invariant-loop-record l = are_idle (lives (drop l.record-index l.record-items)) ≡ are_idle l.self
