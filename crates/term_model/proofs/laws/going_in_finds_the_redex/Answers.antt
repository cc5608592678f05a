use Rattle.term_model.specs.Term.{split-plug}
use Rattle.term_model.proofs.laws.going_in_finds_the_redex.Goals as goal

abbrev pub returns : goal.returns
returns c = λ d f. split-plug d f
