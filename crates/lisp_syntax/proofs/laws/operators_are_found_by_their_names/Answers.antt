use Rattle.lisp_syntax.proofs.Names.{operators-iff}
use Rattle.lisp_syntax.proofs.laws.operators_are_found_by_their_names.Goals as goal

pub returns : goal.returns
returns c = operators-iff
