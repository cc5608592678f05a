use Rattle.session_model.proofs.PipeArrivals.{pipe_takes_in_order}
use Rattle.session_model.proofs.laws.a_pipe_takes_in_order.Goals as goal

pub returns : goal.returns
returns c = pipe_takes_in_order
