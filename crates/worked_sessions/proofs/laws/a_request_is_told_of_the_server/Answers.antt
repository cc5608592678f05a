use Rattle.worked_sessions.proofs.InformationSteps.{writes}
use Rattle.worked_sessions.proofs.laws.a_request_is_told_of_the_server.Goals as goal

pub returns : goal.returns
returns c = writes
