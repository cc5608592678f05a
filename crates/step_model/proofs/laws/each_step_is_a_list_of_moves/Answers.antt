use Rattle.step_model.proofs.Paths.{as_built_path, step_path}
use Rattle.step_model.proofs.laws.each_step_is_a_list_of_moves.Goals as goal

abbrev pub returns : goal.returns
returns c = record { whole = λ rules n. step_path rules n; as_built = λ built rules n. as_built_path built rules n }
