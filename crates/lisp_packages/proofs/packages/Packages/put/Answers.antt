use Rattle.std.proofs.Common.{refl}
use Rattle.lisp_packages.specs.Entries.{put_entry}
use Rattle.lisp_packages.proofs.PackagesLemmas.{set-own}
use Rattle.lisp_packages.proofs.NamedLemmas.{HasNames-set}
use Rattle.lisp_packages.proofs.packages.Packages.put.Goals as goal

pub returns-clause-ok : goal.returns-clause-ok
returns-clause-ok c = set-own c.self.inside.list.items c.args.self.now c.args.place c.index_mut.result.now c.put.new.self (λ own. put_entry own c.args.entry) c.self.view_is c.requires c.index_mut.ensures.value c.in_ok-put.ensures.ok

pub invariant_of-self-2 : goal.invariant_of-self-2
invariant_of-self-2 c = HasNames-set c.self.inside.names c.self.inside.list.items c.args.place c.index_mut.result.now (record c.index_mut.result.now { own = c.put.new.self }) c.self.invariant c.index_mut.ensures.value (λ t. refl)
