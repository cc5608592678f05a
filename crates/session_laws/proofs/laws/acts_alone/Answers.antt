use Rattle.session_laws.proofs.ActingAlone as alone
use Rattle.session_laws.proofs.laws.acts_alone.Goals as goal

pub returns : goal.returns
returns c = alone.acts_alone
