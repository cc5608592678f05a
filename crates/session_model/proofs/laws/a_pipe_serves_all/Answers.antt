use Rattle.session_model.proofs.PipeRests.{pipe_rests}
use Rattle.session_model.proofs.laws.a_pipe_serves_all.Goals as goal

pub returns : goal.returns
returns c = pipe_rests
