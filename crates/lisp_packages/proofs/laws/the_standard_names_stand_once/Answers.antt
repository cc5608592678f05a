use Rattle.lisp_packages.proofs.StandardLemmas.{own-standard}
use Rattle.lisp_packages.proofs.laws.the_standard_names_stand_once.Goals as goal

pub returns : goal.returns
returns c = own-standard
