use Rattle.session_model.proofs.ArrivingLemmas.{all-arrive, dropped}
use Rattle.session_model.proofs.laws.an_interrupt_is_kept_or_dropped.Goals as goal

abbrev pub returns : goal.returns
returns c = record { dropped = λ built w thread none live. dropped built w thread none live; all = λ w m. all-arrive w m }
