use Rattle.server_rules.proofs.StepSimple.{step_keeps}
use Rattle.server_rules.proofs.laws.steps_leave_the_rest.Goals as goal

abbrev pub returns : goal.returns
returns c = λ n e. (step_keeps n e).beside
