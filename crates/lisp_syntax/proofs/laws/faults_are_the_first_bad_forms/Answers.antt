use Rattle.lisp_syntax.proofs.FirstBads.{refused-iff}
use Rattle.lisp_syntax.proofs.laws.faults_are_the_first_bad_forms.Goals as goal

pub returns : goal.returns
returns c = refused-iff
