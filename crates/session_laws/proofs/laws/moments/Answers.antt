use Rattle.session_laws.proofs.MomentLemmas.{beginning_is_moment, moment_is_legal, moment_tells, run_within, step_is_moment, steps_in_turn}
use Rattle.session_laws.proofs.laws.moments.Goals as goal

pub returns : goal.returns
returns c = record { beginnings = beginning_is_moment; bursts = step_is_moment; stands = run_within; goes_on = steps_in_turn; legal = moment_is_legal; told = moment_tells }
