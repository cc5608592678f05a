use Rattle.swank_rpc.proofs.HeadLemmas.{calls-bind}
use Rattle.swank_rpc.proofs.laws.calls_bind_their_package.Goals as goal

pub returns : goal.returns
returns c = calls-bind
