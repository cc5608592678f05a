use Rattle.step_model.proofs.MachineFunctionLemmas.{machine-functions-iff}
use Rattle.step_model.proofs.laws.each_machine_function_is_found.Goals as goal

pub returns : goal.returns
returns c = machine-functions-iff
