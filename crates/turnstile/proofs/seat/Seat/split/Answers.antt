use Rattle.std.proofs.Common.{rules, ◌≡◌, ◌+◌, [], sym, ap, ◌∙◌, subst, arith}
use Rattle.turnstile.specs.History.{own}
use Rattle.turnstile.specs.Seats.{view_in, split_right}
use Rattle.turnstile.proofs.HistoryLemmas.{own_over}
use Rattle.turnstile.proofs.RuleLemmas.{splits, stays_first}
use Rattle.turnstile.proofs.seat.Seat.split.Goals as goal

pub load-requires : goal.load-requires
load-requires g c =
    let is = ap view_in (sym c.into_seat-place.ensures.2) ∙ ap (λ b. view_in b.views) c.replace.ensures.value in
    (search rules, search rules, stays_first g.V.Kept.number_of g.V.Kept.history _ _ _ (ap (λ v. v.number) is ∙ (ap (λ k. k.number) c.self.view_is ∙ c.requires.first)) (ap (λ v. v.is_live) is ∙ c.self.invariant.is_live))

pub split_seat-seat-requires : goal.split_seat-seat-requires
split_seat-seat-requires g c =
    let is = ap view_in (sym c.into_seat-place.ensures.2) ∙ ap (λ b. view_in b.views) c.replace.ensures.value in
    let m = c.load.ensures.2.0 in
    (search rules, search rules, splits g.V.Kept.number_of g.V.Kept.history _ _ (ap (λ m. m.0.number) m ∙ (ap (λ v. v.number) is ∙ (ap (λ k. k.number) c.self.view_is ∙ c.requires.first))) (ap (λ m. m.0.is_live) m ∙ (ap (λ v. v.is_live) is ∙ c.self.invariant.is_live)))

pub returns-clause-unused : goal.returns-clause-unused
returns-clause-unused g c =
    let is = ap view_in c.into_badge-2.ensures.2 ∙ ap (λ m. m.0) c.split_seat-seat.ensures.4 in
    let look = c.load.ensures.2 in
    let v = c.into_seat-place.result.me.0 in
    let unused = own_over g.V.Kept.number_of v.made (v.made + 1) v.seen (omega arith) look.2 in
    subst (λ u. own g.V.Kept.number_of u.number u.seen ≡ []) (sym (is ∙ ap (λ m. split_right m.0) look.0)) unused
