use Rattle.std.proofs.Common.{◌∙◌, ap, take}
use Rattle.std.specs.Map.{values_of}
use Rattle.lisp_packages.proofs.OwnLemmas.{IsKeyed-take, values-take}
use Rattle.lisp_packages.proofs.own.Own.truncate.Goals as goal

pub invariant_of-self : goal.invariant_of-self
invariant_of-self c = rw c.truncate.ensures.entries (IsKeyed-take _ _ c.self.invariant)

pub returns : goal.returns
returns c = ap values_of c.truncate.ensures.entries ∙ values-take c.args.keep c.self.inside.map.entries ∙ ap (take c.args.keep) c.self.view_is
