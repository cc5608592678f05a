use Rattle.server_laws.proofs.Sessions.{names_stay_short}
use Rattle.server_laws.proofs.laws.short_names_stay_short.Goals as goal

pub returns : goal.returns
returns c = names_stay_short
