use Rattle.step_model.specs.Kinds.{current}
use Rattle.step_model.specs.Requests.{asked}
use Rattle.swank_rpc.specs.Commands.{called}
use Rattle.swank_rpc.specs.Finishes.{ended}
use Rattle.swank_rpc.proofs.CarryLemmas.{carried-call, carried-end}
use Rattle.swank_rpc.proofs.laws.requests_are_carried_out.Goals as goal

pub returns-clause-call : goal.returns-clause-call
returns-clause-call c n = carried-call n (called (asked n).form (current n) n.image)

pub returns-clause-end : goal.returns-clause-end
returns-clause-end c n kept v = carried-end n v (ended (asked n).form kept v (current n) n.image)
