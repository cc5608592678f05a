use Rattle.server_rules.proofs.StepSimple.{step_keeps}
use Rattle.server_rules.proofs.laws.threads_stay_simple.Goals as goal

abbrev pub returns-clause-step : goal.returns-clause-step
returns-clause-step c = λ n e. (step_keeps n e).simple
