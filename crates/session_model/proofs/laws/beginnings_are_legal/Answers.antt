use Rattle.session_model.proofs.Prefixes.{prefix_is_legal}
use Rattle.session_model.proofs.laws.beginnings_are_legal.Goals as goal

pub returns : goal.returns
returns c = prefix_is_legal
