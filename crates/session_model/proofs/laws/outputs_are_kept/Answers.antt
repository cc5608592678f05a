use Rattle.session_model.proofs.Outputs.{outputs_are_written}
use Rattle.session_model.proofs.laws.outputs_are_kept.Goals as goal

pub returns : goal.returns
returns c = outputs_are_written
