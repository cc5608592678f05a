use Rattle.lisp_syntax.proofs.Trees.{parsed-backed}
use Rattle.lisp_syntax.proofs.laws.trees_give_their_forms_back.Goals as goal

pub returns : goal.returns
returns c = parsed-backed
