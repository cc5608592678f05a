use Rattle.term_model.specs.Variables.{with_dynamic}
use Rattle.lisp_dynamic.proofs.ValueLemmas.{set-in-step}
use Rattle.lisp_dynamic.proofs.laws.assigning_is_that_of_a_step.Goals as goal

abbrev pub returns : goal.returns
returns c = λ n s v. set-in-step n s v (with_dynamic s v n.context)
