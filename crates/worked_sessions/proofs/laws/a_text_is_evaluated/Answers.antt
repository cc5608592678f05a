use Rattle.worked_sessions.proofs.EvaluationSteps.{writes}
use Rattle.worked_sessions.proofs.laws.a_text_is_evaluated.Goals as goal

pub returns : goal.returns
returns c = writes
