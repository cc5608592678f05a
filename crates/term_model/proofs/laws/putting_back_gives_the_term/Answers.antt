use Rattle.term_model.specs.Term.{plug-split}
use Rattle.term_model.proofs.laws.putting_back_gives_the_term.Goals as goal

abbrev pub returns : goal.returns
returns c = λ t. plug-split t
