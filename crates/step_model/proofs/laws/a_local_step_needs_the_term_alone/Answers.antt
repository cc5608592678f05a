use Rattle.std.proofs.Common.{arith}
use Rattle.step_model.proofs.ListedLemmas.{listed_local}
use Rattle.step_model.proofs.LocalLemmas.{local_step}
use Rattle.step_model.proofs.ShallowLemmas.{listed_room}
use Rattle.step_model.proofs.laws.a_local_step_needs_the_term_alone.Goals as goal

abbrev pub returns : goal.returns
returns c = record {
  step = λ rules n s h. local_step rules n s h;
  listed = λ rules current d f h i r. listed_local rules current d f h i r;
  room = λ rules current d f h left shallow. listed_room 1990 rules current d f h (omega arith) (omega (arith, left)) shallow;
}
