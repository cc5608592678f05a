use Rattle.lisp_syntax.proofs.Depths.{parsed-is}
use Rattle.lisp_syntax.proofs.laws.forms_are_parsed_by_their_rows.Goals as goal

pub returns : goal.returns
returns c = parsed-is
