use Rattle.worked_sessions.proofs.AnnouncementLemmas.{announced, error-is}
use Rattle.worked_sessions.proofs.laws.a_type_error_is_announced.Goals as goal

pub returns-clause-condition : goal.returns-clause-condition
returns-clause-condition c = error-is

pub returns-clause-message : goal.returns-clause-message
returns-clause-message c = announced
