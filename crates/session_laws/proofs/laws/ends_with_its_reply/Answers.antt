use Rattle.session_laws.proofs.EndsFacts.{step_ends_with_its_reply}
use Rattle.session_laws.proofs.laws.ends_with_its_reply.Goals as goal

pub returns : goal.returns
returns c = step_ends_with_its_reply
