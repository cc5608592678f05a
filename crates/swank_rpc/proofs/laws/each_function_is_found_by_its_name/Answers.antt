use Rattle.swank_rpc.proofs.HeadLemmas.{heads-found, names-iff, none-unbuilt}
use Rattle.swank_rpc.proofs.laws.each_function_is_found_by_its_name.Goals as goal

pub returns-clause-name : goal.returns-clause-name
returns-clause-name c = names-iff

pub returns-clause-head : goal.returns-clause-head
returns-clause-head c = heads-found

pub returns-clause-built : goal.returns-clause-built
returns-clause-built c = none-unbuilt
