use Rattle.std.proofs.Common.{◌≤◌, ◌<◌, ◌-◌, sym, take, length, rules, refl}
use Rattle.lisp_packages.specs.Packages.{own_at}
use Rattle.lisp_packages.proofs.PackagesLemmas.{set-own, with_own-past}
use Rattle.lisp_packages.proofs.NamedLemmas.{HasNames-set}
use Rattle.lisp_packages.proofs.packages.Packages.drop_last.Goals as goal

pub returns-then-place-len : goal.returns-then-place-len
returns-then-place-len c =
    let within : c.args.place < length c.args.self.now = search rules in
    set-own c.self.inside.list.items c.args.self.now c.args.place c.index_mut.result.now c.drop_last.new.self (λ own. take (length own - 1) own) c.self.view_is within c.index_mut.ensures.value c.drop_last.ensures

pub returns-else-place-len : goal.returns-else-place-len
returns-else-place-len c =
    let past : length c.args.self.now ≤ c.args.place = search rules in
    sym (with_own-past c.args.self.now c.args.place (take (length (own_at c.args.self.now c.args.place) - 1) (own_at c.args.self.now c.args.place)) past)

pub invariant_of-self : goal.invariant_of-self
invariant_of-self c = HasNames-set c.self.inside.names c.self.inside.list.items c.args.place c.index_mut.result.now (record c.index_mut.result.now { own = c.drop_last.new.self }) c.self.invariant c.index_mut.ensures.value (λ t. refl)
