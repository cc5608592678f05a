use Rattle.std.proofs.Common.{◌≡◌, ◌∙◌, ◌-◌, ap, take, length, rules}
use Rattle.std.specs.Map.{values_of}
use Rattle.lisp_packages.proofs.OwnLemmas.{IsKeyed-take, values-take}
use Rattle.lisp_packages.proofs.own.Own.drop_last.Goals as goal

pub invariant_of-self : goal.invariant_of-self
invariant_of-self c = rw c.truncate.ensures.entries (IsKeyed-take _ _ c.self.invariant)

pub returns : goal.returns
returns c =
    let keep : c.saturating_sub-keep.result ≡ length c.args.self.now - 1 = search rules in
    ap values_of c.truncate.ensures.entries ∙ values-take c.saturating_sub-keep.result c.self.inside.map.entries ∙ (λ k. take (keep k) (c.self.view_is k))
