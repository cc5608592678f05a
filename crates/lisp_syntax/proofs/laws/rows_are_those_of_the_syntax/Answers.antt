use Rattle.lisp_syntax.proofs.FoundRows.{rows-iff}
use Rattle.lisp_syntax.proofs.laws.rows_are_those_of_the_syntax.Goals as goal

pub returns : goal.returns
returns c = rows-iff
