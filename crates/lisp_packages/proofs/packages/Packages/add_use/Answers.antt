use Rattle.std.proofs.Common.{◌++◌, ◌∷◌, [], refl}
use Rattle.lisp_packages.proofs.PackagesLemmas.{set-uses}
use Rattle.lisp_packages.proofs.NamedLemmas.{HasNames-set}
use Rattle.lisp_packages.proofs.packages.Packages.add_use.Goals as goal

pub returns-clause-ok : goal.returns-clause-ok
returns-clause-ok c = set-uses c.self.inside.list.items c.args.self.now c.args.place c.index_mut.result.now c.push.new.self (λ uses. uses ++ c.args.used ∷ []) c.self.view_is c.requires c.index_mut.ensures.value c.in_ok-push.ensures.ok

pub invariant_of-self-2 : goal.invariant_of-self-2
invariant_of-self-2 c = HasNames-set c.self.inside.names c.self.inside.list.items c.args.place c.index_mut.result.now (record c.index_mut.result.now { uses = c.push.new.self }) c.self.invariant c.index_mut.ensures.value (λ t. refl)
