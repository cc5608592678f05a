use Rattle.session_laws.proofs.Lawful as lawful
use Rattle.session_laws.proofs.laws.each_journal_is_lawful.Goals as goal

pub returns : goal.returns
returns c = lawful.is_lawful
