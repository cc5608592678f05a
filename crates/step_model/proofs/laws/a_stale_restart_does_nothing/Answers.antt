use Rattle.step_model.proofs.StaleLemmas.{stale_is_built, stale_step}
use Rattle.step_model.proofs.laws.a_stale_restart_does_nothing.Goals as goal

abbrev pub returns : goal.returns
returns c = record {
  step = λ rules n k i e command stale. stale_step rules n k i e command stale;
  built = λ built rules n k i e served command stale. stale_is_built built rules n k i e served command stale;
}
