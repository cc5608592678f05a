use Rattle.std.proofs.Common.{refl}
use Rattle.lisp_dynamic.proofs.laws.the_value_is_that_of_a_step.Goals as goal

abbrev pub returns : goal.returns
returns c = λ n s. refl
