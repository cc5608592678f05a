use Rattle.lisp_format.proofs.FormatLemmas.{goes_on}
use Rattle.lisp_format.proofs.piece.step_of.Goals as goal

pub returns-then-after_tilde : goal.returns-then-after_tilde
returns-then-after_tilde c = goes_on c.args.after_tilde c.directive_of.result c.args.c c.args.left.now c.obey.result c.if-after_tilde.true c.directive_of.ensures c.obey.ensures
