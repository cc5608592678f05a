use Rattle.std.proofs.Common.{rules, refl, ◌≡◌, [], ◌∷◌, ◌++◌, Some, true, sym, ap, ◌∙◌, subst}
use Rattle.std.specs.List.{AllByRecursion}
use Rattle.atomic_table.specs.Table.{rest, Allows}
use Rattle.turnstile.specs.Rule.{IsOrderly, Frees}
use Rattle.turnstile.specs.Seats.{view_in, stands}
use Rattle.turnstile.proofs.RuleLemmas.{takes_slot, publishes, frees}
use Rattle.turnstile.proofs.turn.Turn.leave.Goals as goal

pub load-requires : goal.load-requires
load-requires g c =
    let e = c.into_seat-place.ensures in
    let is = ap view_in (sym e.2) ∙ ap (λ b. view_in b.views) c.replace.ensures.value in
    let i = c.seat.invariant in (
      search rules,
      search rules,
      takes_slot g.V.Kept.number_of g.V.Kept.history _ _ _ c.into_seat-place.result.me.0 (ap (λ l. (c.into_seat-place.result.me.0, l)) e.3) (ap (λ v. v.is_live) is ∙ i.is_live)
          (ap (λ v. v.has_turn) is ∙ (ap (λ k. k.has_turn) c.seat.view_is ∙ c.requires.turn)) (ap (λ v. v.has_slot) is ∙ i.no_slot),
    )

pub store-requires : goal.store-requires
store-requires g c =
    let x = c.self.inside.value in
    let is = ap view_in (sym c.into_seat-place.ensures.2) ∙ ap (λ b. view_in b.views) c.replace.ensures.value in
    let now = ap (λ k. k.seen) c.seat.view_is in
    let h = c.requires.history in
    let f = c.load.ensures.2 in
    let v = c.into_seat-place.result.me.0 in
    let w = stands v v.seen true true in
    let m : c.exchange-empty.new.seat.me ≡ (w, (0, Some x) ∷ []) = c.exchange-empty.ensures.3 ∙ λ i. (f.0 i, (0, Some x) ∷ rest (f.1 i)) in
    let number = ap (λ u. u.number) is ∙ ap (λ k. k.number) c.seat.view_is in
    let seen = ap (λ u. u.seen) is ∙ ap (λ k. k.seen) c.seat.view_is in (
      search rules,
      search rules,
      publishes g.V.Kept.number_of g.V.Kept.history _ _ _ w x h.0 _ m (ap (λ u. u.is_live) is ∙ c.seat.invariant.is_live) refl
          (ap (λ l. l ++ h.0) seen ∙ (h.1 ∙ ap g.V.Kept.history (sym c.self.view_is)))
          (subst (λ n. AllByRecursion (λ e. g.V.Kept.number_of e ≡ n) h.0) (sym number) h.2)
          c.len-length.ensures,
    )

pub swap-found-requires : goal.swap-found-requires
swap-found-requires g c =
    let x = c.self.inside.value in
    let is = ap view_in (sym c.into_seat-place.ensures.2) ∙ ap (λ b. view_in b.views) c.replace.ensures.value in
    let f = c.load.ensures.2 in
    let v = c.into_seat-place.result.me.0 in
    let put : c.exchange-empty.new.seat.me.1 ≡ (0, Some x) ∷ [] = ap (λ m. m.1) c.exchange-empty.ensures.3 ∙ ap (λ l. (0, Some x) ∷ rest l) f.1 in
    let p = c.store.ensures.2 x put in
    let w = stands c.exchange-empty.new.seat.me.0 (g.V.Kept.history x) true true in
    let m : c.tell-has_changed.new.place.me ≡ (w, (0, Some x) ∷ []) = c.tell-has_changed.ensures.me ∙ λ i. (p.0 i, (p.1 ∙ put) i) in
    let live = ap (λ m. m.0.is_live) c.exchange-empty.ensures.3 ∙ (ap (λ u. u.is_live) f.0 ∙ (ap (λ u. u.is_live) is ∙ c.seat.invariant.is_live)) in (
      search rules,
      search rules,
      subst (λ n. Allows (IsOrderly g.V.Kept.number_of g.V.Kept.history) n c.tell-has_changed.new.place.id c.tell-has_changed.new.place.me 0 (λ _. 0) (λ _. Frees c.tell-has_changed.new.place.me)) (sym c.hall.invariant.1)
          (frees g.V.Kept.number_of g.V.Kept.history _ _ w x m live refl refl),
    )
