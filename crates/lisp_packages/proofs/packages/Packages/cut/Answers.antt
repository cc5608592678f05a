use Rattle.std.proofs.Common.{◌≤◌, ◌<◌, ◌∙◌, set, length, rules, refl}
use Rattle.lisp_packages.proofs.UndoneLemmas.{set-cut, cut-past}
use Rattle.lisp_packages.proofs.NamedLemmas.{HasNames-set}
use Rattle.lisp_packages.proofs.packages.Packages.cut.Goals as goal

pub returns-then-place-len : goal.returns-then-place-len
returns-then-place-len c =
    let within : c.args.place < length c.args.self.now = search rules in
    (λ j. set c.self.inside.list.items c.args.place (record c.index_mut-package.result.now { uses = c.truncate.ensures j; own = c.truncate-then-place-len.ensures j }))
    ∙ set-cut c.self.inside.list.items c.args.self.now c.args.place c.args.uses c.args.own c.index_mut-package.result.now c.self.view_is within c.index_mut-package.ensures.value

pub returns-else-place-len : goal.returns-else-place-len
returns-else-place-len c =
    let past : length c.args.self.now ≤ c.args.place = search rules in
    cut-past c.args.self.now c.args.place c.args.uses c.args.own past

pub invariant_of-self : goal.invariant_of-self
invariant_of-self c = HasNames-set c.self.inside.names c.self.inside.list.items c.args.place c.index_mut-package.result.now (record c.index_mut-package.result.now { uses = c.truncate.new.self; own = c.truncate-then-place-len.new.self }) c.self.invariant c.index_mut-package.ensures.value (λ t. refl)
