use Rattle.std.proofs.Common.{◌∙◌, ap}
use Rattle.lisp_packages.specs.Entries.{entry_of}
use Rattle.lisp_packages.proofs.OwnLemmas.{lookup-IsKeyed}
use Rattle.lisp_packages.proofs.own.Own.get.Goals as goal

pub returns : goal.returns
returns c = c.get.ensures.value ∙ lookup-IsKeyed c.args.name.now c.self.inside.map.entries c.self.invariant ∙ ap (λ own. entry_of own c.args.name.now) c.self.view_is
