use Rattle.session_laws.proofs.Stale as stale
use Rattle.session_laws.proofs.laws.ignores_stale.Goals as goal

pub returns : goal.returns
returns c = stale.ignores_stale
