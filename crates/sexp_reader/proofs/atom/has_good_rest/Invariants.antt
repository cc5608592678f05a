use Rattle.std.proofs.Common.{◌≡◌, length}
use Rattle.sexp_reader.specs.Atoms.{has_good_rest}
use Rattle.sexp_reader.proofs.atom.has_good_rest.Given as goal

abbrev pub invariant-loop-rest : goal.invariant-loop-rest
invariant-loop-rest l = has_good_rest l.rest ≡ has_good_rest l.part

abbrev pub decreases-loop-rest : goal.decreases-loop-rest
decreases-loop-rest l = length l.rest
