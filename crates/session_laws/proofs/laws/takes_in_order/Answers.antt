use Rattle.session_laws.proofs.KeepsTakings as takings
use Rattle.session_laws.proofs.laws.takes_in_order.Goals as goal

pub returns : goal.returns
returns c = takings.takes_in_order
