use Rattle.std.proofs.Common.{◌∙◌, ap, refl}
use Rattle.lisp_packages.specs.Entries.{added}
use Rattle.lisp_packages.specs.Made.{shortened}
use Rattle.lisp_packages.proofs.PackagesLemmas.{set-own, own_now}
use Rattle.lisp_packages.proofs.MadeLemmas.{shortened-with_own}
use Rattle.lisp_packages.proofs.NamedLemmas.{HasNames-set}
use Rattle.lisp_packages.proofs.packages.Packages.add.Goals as goal

pub returns-clause-ok : goal.returns-clause-ok
returns-clause-ok c = set-own c.self.inside.list.items c.args.self.now c.args.place c.index_mut.result.now c.add.new.self (λ own. added own c.args.entry) c.self.view_is c.requires c.index_mut.ensures.value c.in_ok-told.ensures.ok

pub returns-clause-told : goal.returns-clause-told
returns-clause-told c t =
    ap (λ ps. shortened ps c.args.place) (set-own c.self.inside.list.items c.args.self.now c.args.place c.index_mut.result.now c.add.new.self (λ own. c.add.new.self) c.self.view_is c.requires c.index_mut.ensures.value refl)
    ∙ shortened-with_own c.args.self.now c.args.place c.add.new.self c.requires
    (c.in_ok-told.ensures.told t ∙ own_now c.self.inside.list.items c.args.self.now c.args.place c.index_mut.result.now c.self.view_is c.requires c.index_mut.ensures.value)

pub invariant_of-self-2 : goal.invariant_of-self-2
invariant_of-self-2 c = HasNames-set c.self.inside.names c.self.inside.list.items c.args.place c.index_mut.result.now (record c.index_mut.result.now { own = c.add.new.self }) c.self.invariant c.index_mut.ensures.value (λ t. refl)
