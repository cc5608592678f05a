use Rattle.swank_session.proofs.StreamLemmas.{are-messages, messages-may}
use Rattle.swank_session.proofs.laws.messages_are_of_the_stream.Goals as goal

pub returns-clause-are : goal.returns-clause-are
returns-clause-are c = are-messages

pub returns-clause-may : goal.returns-clause-may
returns-clause-may c = messages-may
