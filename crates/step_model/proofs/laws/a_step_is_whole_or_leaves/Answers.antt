use Rattle.step_model.proofs.AsBuiltLemmas.{all-built, built-step, unbuilt-step}
use Rattle.step_model.proofs.laws.a_step_is_whole_or_leaves.Goals as goal

abbrev pub returns : goal.returns
returns c = record {
  built = λ built rules n e. built-step built rules n e;
  unbuilt = λ built rules n e. unbuilt-step built rules n e;
  all = λ rules n. all-built rules n;
}
