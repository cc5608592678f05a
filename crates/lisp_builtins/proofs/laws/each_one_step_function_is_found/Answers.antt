use Rattle.lisp_builtins.proofs.NameLemmas.{ops-iff}
use Rattle.lisp_builtins.proofs.laws.each_one_step_function_is_found.Goals as goal

pub returns : goal.returns
returns c = ops-iff
