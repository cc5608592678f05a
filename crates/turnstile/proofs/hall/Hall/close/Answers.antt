use Rattle.std.proofs.Common.{refl, ◌≡◌, ◌≤◌, Some, length, ap, sym, subst, ◌∙◌}
use Rattle.std.specs.List.{AllByRecursion}
use Rattle.std.specs.Option.{IsSome}
use mathlib.Core.List.{IsPrefix}
use mathlib.Core.Option.{some, some-injective}
use Rattle.turnstile.specs.History.{own, Covers}
use Rattle.turnstile.specs.Seats.{view_in}
use Rattle.turnstile.proofs.RuleLemmas.{closes}
use Rattle.turnstile.proofs.hall.Hall.close.Goals as goal

pub unwrap-value-requires : goal.unwrap-value-requires
unwrap-value-requires g c = let f = c.close_with-closed.ensures.values.2 in
    let b = c.into_badge.ensures.view in
    let same = ap view_in (sym b.1 ∙ c.into_seat.ensures.2) in
    let t = closes g.V.Kept.number_of g.V.Kept.history f.0 f.1.0 _ b.0 (f.1.1 ∙ ap some (sym same)) (ap (λ k. k.number) b.2 ∙ c.requires.first.0) b.3 (ap (λ k. k.has_turn) b.2 ∙ c.requires.first.1)
    (ap (λ k. length k.joined) b.2 ∙ c.requires.whole ∙ sym (ap (λ k. k.made) b.2)) in
    let here : c.take.result ≡ Some t.0 = some-injective _ _ (sym c.take.ensures.value ∙ f.4 0 (Some t.0) t.1) in
    subst IsSome (sym here) refl

pub returns : goal.returns
returns g c = let f = c.close_with-closed.ensures.values.2 in
    let b = c.into_badge.ensures.view in
    let same = ap view_in (sym b.1 ∙ c.into_seat.ensures.2) in
    let t = closes g.V.Kept.number_of g.V.Kept.history f.0 f.1.0 _ b.0 (f.1.1 ∙ ap some (sym same)) (ap (λ k. k.number) b.2 ∙ c.requires.first.0) b.3 (ap (λ k. k.has_turn) b.2 ∙ c.requires.first.1)
    (ap (λ k. length k.joined) b.2 ∙ c.requires.whole ∙ sym (ap (λ k. k.made) b.2)) in
    let here : c.take.result ≡ Some t.0 = some-injective _ _ (sym c.take.ensures.value ∙ f.4 0 (Some t.0) t.1) in
    let out : t.0 ≡ c.unwrap-value.result = let e : Some t.0 ≡ Some c.unwrap-value.result = sym here ∙ c.unwrap-value.ensures in cc in
    let number = g.V.Kept.number_of in
    let history = g.V.Kept.history in
    let all = subst (λ x. IsPrefix c.args.seat.seen (history x) × (own number c.args.seat.number (history x) ≡ own number c.args.seat.number c.args.seat.seen)
    × AllByRecursion (Covers number (history x)) c.args.seat.joined × AllByRecursion (λ e. number e ≤ c.args.seat.made) (history x)) out
    (subst (λ k. IsPrefix k.seen (history t.0) × (own number k.number (history t.0) ≡ own number k.number k.seen) × AllByRecursion (Covers number (history t.0)) k.joined × AllByRecursion (λ e. number e ≤ k.made) (history t.0))
    b.2 (t.2.0.0, t.2.0.1, t.2.1, t.3)) in
    record { seen = all.0; own = all.1; joined = all.2; numbers = all.3 }
