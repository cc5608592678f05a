use Rattle.std.proofs.Common.{◌≡◌, ◌+◌, ◌<◌, length, ap, ◌∙◌, arith}
use Rattle.session_model.specs.declared.event.Event.TheVariants.{End}
use Rattle.swank_core.specs.Session.{Session, world}
use Rattle.swank_core.proofs.LegalLemmas.{legal_end}
use Rattle.swank_core.proofs.TiesLemmas.{entry, fits_more, ties_end}
use Rattle.swank_core.proofs.state.Core.end_input.Goals as goal

pub invariant_of-self-2 : goal.invariant_of-self-2
invariant_of-self-2 c =
    let i = c.self.inside in
    let ties = c.self.invariant.0 in
    let fits = c.self.invariant.1 in
    let whole = ap (λ (s : Session). s.failed) c.self.view_is ∙ c.in_default.ensures.free.whole in
    let long : length i.journal ≡ length c.args.self.now.journal = ap (λ (s : Session). length s.journal) c.self.view_is in
    let most : i.limits.journal ≡ c.args.self.now.limits.journal = ap (λ (s : Session). s.limits.journal) c.self.view_is in
    let room : length i.journal + 1 < i.limits.journal = omega (arith, long, most, c.in_default.ensures.free.room) in
    let is = c.in_default-add.ensures.ok in
    let more = ap (λ (s : Session). (world s).ended) c.self.view_is ∙ c.requires.open in (
      ties_end i.opened.value i.journal c.add.new.self c.args.seat i.live i.outs i.steps i.steps_after_end i.ended i.failed is ties,
      fits_more i.journal c.add.new.self (entry c.args.seat End) i.outs i.outs i.steps i.steps_after_end i.steps i.steps_after_end i.limits is room (omega arith) fits.after_below fits,
      legal_end i.opened.value i.journal c.add.new.self c.args.seat is more ties.still c.self.invariant.2,
    )
