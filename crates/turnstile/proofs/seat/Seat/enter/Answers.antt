use Rattle.std.proofs.Common.{rules, refl, sym, ap, ◌∙◌, subst}
use Rattle.atomic_table.specs.Table.{Allows}
use Rattle.turnstile.specs.Rule.{IsOrderly, ReturnsSlot}
use Rattle.turnstile.specs.Seats.{view_in}
use Rattle.turnstile.proofs.RuleLemmas.{returns_slot}
use Rattle.turnstile.proofs.seat.Seat.enter.Goals as goal

pub load-requires : goal.load-requires
load-requires g c =
    let is = ap view_in (sym c.into_seat-place.ensures.2) ∙ ap (λ b. view_in b.views) c.replace.ensures.value in
    let live = ap (λ v. v.is_live) is ∙ c.self.invariant.is_live in (
      search rules,
      search rules,
      subst (λ n. Allows (IsOrderly g.V.Kept.number_of g.V.Kept.history) n c.take-value.new.place.id c.take-value.new.place.me 0 (λ n. n) (λ _. ReturnsSlot c.take-value.new.place.me)) (sym c.hall.invariant.1)
          (returns_slot g.V.Kept.number_of g.V.Kept.history _ _ _ c.take-value.ensures.taken.0 live refl),
    )
