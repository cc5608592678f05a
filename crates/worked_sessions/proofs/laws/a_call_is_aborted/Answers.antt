use Rattle.worked_sessions.proofs.UnbuiltCallSteps.{writes}
use Rattle.worked_sessions.proofs.laws.a_call_is_aborted.Goals as goal

pub returns : goal.returns
returns c = writes
