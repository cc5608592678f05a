use Rattle.std.proofs.Common.{◌≡◌, drop}
use Rattle.session_model.specs.Legal.{is_lendable}
use Rattle.swank_core.specs.Kept.{first}
use Rattle.swank_core.specs.Threads.{number_of, thread_of}
use Rattle.swank_core.proofs.threads.first_lendable.Given as goal

abbrev pub invariant-loop-record : goal.invariant-loop-record
invariant-loop-record l = first number_of thread_of is_lendable (drop l.record-index l.record-items) ≡ first number_of thread_of is_lendable (drop l.from l.records)
