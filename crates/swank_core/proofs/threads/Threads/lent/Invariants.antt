use Rattle.std.proofs.Common.{◌≡◌, ◌+◌, ◌≤◌, drop}
use Rattle.swank_core.specs.Session.{lent_among}
use Rattle.swank_core.proofs.TableLemmas.{lives}
use Rattle.swank_core.proofs.threads.Threads.lent.Given as goal

abbrev pub invariant-loop-record : goal.invariant-loop-record
invariant-loop-record l = (l.lent + lent_among (lives (drop l.record-index l.record-items)) ≡ lent_among l.self) × (l.lent ≤ l.record-index)
