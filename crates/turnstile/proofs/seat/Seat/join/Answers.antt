use Rattle.std.proofs.Common.{rules, ap, sym, ◌∙◌}
use Rattle.turnstile.specs.Seats.{view_in}
use Rattle.turnstile.proofs.RuleLemmas.{joins, stays_first}
use Rattle.turnstile.proofs.seat.Seat.join.Goals as goal

pub join_seat-requires : goal.join_seat-requires
join_seat-requires g c =
    let is = ap view_in (sym c.into_seat-place.ensures.2) ∙ ap (λ b. view_in b.views) c.replace.ensures.value in
    let b = c.into_badge.ensures.view in
    let other = ap view_in (sym c.into_seat.ensures.2 ∙ b.1) in (
      search rules,
      search rules,
      search rules,
      search rules,
      joins g.V.Kept.number_of g.V.Kept.history _ _ _ _ (ap (λ v. v.number) is ∙ (ap (λ k. k.number) c.self.view_is ∙ c.requires.first)) (ap (λ v. v.is_live) is ∙ c.self.invariant.is_live) (ap (λ v. v.is_live) other ∙ b.3)
          (ap (λ v. v.has_turn) other ∙ (ap (λ k. k.has_turn) b.2 ∙ c.requires.free.1)),
    )

pub load-requires : goal.load-requires
load-requires g c =
    let is = ap view_in (sym c.into_seat-place.ensures.2) ∙ ap (λ b. view_in b.views) c.replace.ensures.value in
    let m = c.join_seat.ensures.2 in
    (search rules, search rules, stays_first g.V.Kept.number_of g.V.Kept.history _ _ _ (ap (λ m. m.0.number) m ∙ (ap (λ v. v.number) is ∙ (ap (λ k. k.number) c.self.view_is ∙ c.requires.first))) (ap (λ m. m.0.is_live) m ∙ (ap (λ v. v.is_live) is ∙ c.self.invariant.is_live)))
