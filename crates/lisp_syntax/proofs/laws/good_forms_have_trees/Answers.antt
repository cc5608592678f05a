use Rattle.lisp_syntax.proofs.FirstBads.{taken-good, good-taken}
use Rattle.lisp_syntax.proofs.laws.good_forms_have_trees.Goals as goal

pub returns : goal.returns
returns c = λ v. (good-taken v, λ made. taken-good v made.0 made.1)
