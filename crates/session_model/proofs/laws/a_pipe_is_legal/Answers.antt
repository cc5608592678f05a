use Rattle.session_model.proofs.PipeLegal.{pipe_is_legal}
use Rattle.session_model.proofs.laws.a_pipe_is_legal.Goals as goal

pub returns : goal.returns
returns c = pipe_is_legal
