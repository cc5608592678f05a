use Rattle.step_model.proofs.ForceLemmas.{cluster_first, running_handler}
use Rattle.step_model.proofs.laws.the_handlers_in_force.Goals as goal

abbrev pub returns : goal.returns
returns c = record { cluster = λ x d. cluster_first x d; running = λ p j d h. running_handler p j d h }
