use Rattle.lisp_packages.proofs.NamedLemmas.{HasNames-take}
use Rattle.lisp_packages.proofs.packages.Packages.pop.Goals as goal

pub invariant_of-self : goal.invariant_of-self
invariant_of-self c = rw c.truncate.ensures.items (HasNames-take c.self.inside.names c.self.inside.list.items _ c.self.invariant)
