use Rattle.std.proofs.Common.{ap, sym, Some}
use Rattle.lisp_packages.proofs.MakingLemmas.{extended-others}
use Rattle.lisp_packages.proofs.packages.Packages.extend.Goals as goal

pub returns-in-Ok-clause-others : goal.returns-in-Ok-clause-others
returns-in-Ok-clause-others c = λ k other. extended-others c.args.self.now c.args.place c.args.places.now c.args.names.now c.extend_on.new.self k (λ e. other (ap Some (sym e))) c.in-Ok.ensures.ok
