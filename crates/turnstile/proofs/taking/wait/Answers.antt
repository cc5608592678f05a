use Rattle.std.proofs.Common.{rules, ◌∷◌, Some, sym, ap, ◌∙◌}
use Rattle.atomic_table.specs.Table.{rest}
use Rattle.turnstile.proofs.RuleLemmas.{takes_by_swap}
use Rattle.turnstile.proofs.taking.wait.Goals as goal

pub swap-found-requires : goal.swap-found-requires
swap-found-requires g c = (search rules, search rules, takes_by_swap g.V.Kept.number_of g.V.Kept.history _ _ _ (ap (λ m. m.0.is_live) c.loop.invariant.4 ∙ c.requires.live.0))

pub exchange-requires : goal.exchange-requires
exchange-requires g c = let t = c.swap-found.ensures.2.0 c.if-found-eq0.true in
    (search rules, (Some t.0, t.1 ∙ ap (λ l. (0, Some t.0) ∷ rest l) (sym t.1)))
