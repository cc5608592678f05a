use Rattle.session_laws.proofs.KeepsLevels as levels
use Rattle.session_laws.proofs.laws.levels_nest.Goals as goal

pub returns : goal.returns
returns c = levels.levels_nest
