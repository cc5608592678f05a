use Rattle.std.proofs.Common.{◌≡◌, ◌+◌, ◌<◌, length, sym, ap, ◌∙◌, arith}
use Rattle.session_model.specs.declared.event.Event.TheVariants.{Arrive}
use Rattle.swank_core.specs.Session.{Session, world}
use Rattle.swank_core.proofs.LegalLemmas.{legal_arrive}
use Rattle.swank_core.proofs.TiesLemmas.{entry, fits_more, ties_arrive}
use Rattle.swank_core.proofs.state.Core.arrive.Goals as goal

pub invariant_of-self-in_default-write : goal.invariant_of-self-in_default-write
invariant_of-self-in_default-write c =
    let i = c.self.inside in
    let ties = c.self.invariant.0 in
    let fits = c.self.invariant.1 in
    let whole = ap (λ (s : Session). s.failed) c.self.view_is ∙ c.in_default.ensures.free.whole in
    let long : length i.journal ≡ length c.args.self.now.journal = ap (λ (s : Session). length s.journal) c.self.view_is in
    let most : i.limits.journal ≡ c.args.self.now.limits.journal = ap (λ (s : Session). s.limits.journal) c.self.view_is in
    let room : length i.journal + 1 < i.limits.journal = omega (arith, long, most, c.in_default.ensures.free.room) in
    let is = c.in_default-write.ensures.journal in
    let more = ap (λ (s : Session). (world s).ended) c.self.view_is ∙ c.requires.open in (
      ties_arrive i.opened.value i.journal c.write.new.journal c.args.seat c.args.m i.live c.arrive.new.self i.outs c.in-Ok.told c.write.new.outs i.steps i.steps_after_end i.ended i.failed
          is c.in_default-write.ensures.outs (λ w p e. c.in-Ok.ensures w (p ∙ sym c.len-at.ensures) e) whole ties,
      fits_more i.journal c.write.new.journal (entry c.args.seat (Arrive c.args.m)) i.outs c.write.new.outs i.steps i.steps_after_end i.steps i.steps_after_end i.limits is room (omega arith) fits.after_below fits,
      legal_arrive i.opened.value i.journal c.write.new.journal c.args.seat c.args.m is more ties.still c.requires.may c.self.invariant.2,
    )
