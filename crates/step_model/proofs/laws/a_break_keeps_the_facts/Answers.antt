use Rattle.step_model.proofs.KeepsFacts.{break_keeps, marks-broken}
use Rattle.step_model.proofs.KeepsRoom.{break_rooms}
use Rattle.step_model.proofs.laws.a_break_keeps_the_facts.Goals as goal

abbrev pub returns : goal.returns
returns c = record { layers = λ most d f h. break_keeps most d f h; room = λ most d f h. break_rooms most d f h; same_marks = λ most d f. marks-broken most d f }
