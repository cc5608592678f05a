use Rattle.lisp_types.proofs.KindLemmas.{is_kind_iff}
use Rattle.lisp_types.proofs.kinds_are_chains.Goals as goal

pub returns : goal.returns
returns c = is_kind_iff
