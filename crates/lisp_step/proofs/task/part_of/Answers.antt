use Rattle.lisp_step.proofs.PartLemmas.{part-other}
use Rattle.lisp_step.proofs.task.part_of.Goals as goal

pub returns : goal.returns
returns c = part-other c.args.layer c.in_default.not-Before c.in_default.not-Answer
