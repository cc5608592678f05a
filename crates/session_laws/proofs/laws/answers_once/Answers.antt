use Rattle.session_laws.proofs.Answering as answering
use Rattle.session_laws.proofs.laws.answers_once.Goals as goal

pub returns : goal.returns
returns c = answering.answers_once
