use Rattle.server_laws.proofs.ShortNames.{Passed}
use Rattle.server_laws.proofs.short_names.are_short.Given as goal

abbrev pub invariant-loop-n : goal.invariant-loop-n
invariant-loop-n l = Passed l.packages l.n l.has_user
