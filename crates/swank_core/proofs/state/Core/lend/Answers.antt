use Rattle.std.proofs.Common.{◌≡◌, ◌+◌, ◌<◌, length, ap, ◌∙◌, arith}
use Rattle.session_model.specs.declared.event.Event.TheVariants.{Lend}
use Rattle.session_model.specs.Legal.{is_ready}
use Rattle.swank_core.specs.Session.{Session, world}
use Rattle.swank_core.proofs.LegalLemmas.{legal_lend}
use Rattle.swank_core.proofs.TiesLemmas.{entry, fits_more, lent_then, ties_lend}
use Rattle.swank_core.proofs.state.Core.lend.Goals as goal

pub invariant_of-self-2 : goal.invariant_of-self-2
invariant_of-self-2 c =
    let i = c.self.inside in
    let ties = c.self.invariant.0 in
    let fits = c.self.invariant.1 in
    let whole = ap (λ (s : Session). s.failed) c.self.view_is ∙ c.in_default.ensures.free.whole in
    let long : length i.journal ≡ length c.args.self.now.journal = ap (λ (s : Session). length s.journal) c.self.view_is in
    let most : i.limits.journal ≡ c.args.self.now.limits.journal = ap (λ (s : Session). s.limits.journal) c.self.view_is in
    let room : length i.journal + 1 < i.limits.journal = omega (arith, long, most, c.in_default.ensures.free.room) in
    let is = c.in_default-add.ensures.ok in
    let ready = ap (λ (s : Session). is_ready (world s) c.args.t) c.self.view_is ∙ c.requires.ready in (
      ties_lend i.opened.value i.journal c.add.new.self c.args.seat c.args.t i.live c.lend.new.self i.outs i.steps i.steps_after_end i.ended i.failed is (λ w e. c.lend.ensures w e) whole ties,
      fits_more i.journal c.add.new.self (entry c.args.seat (Lend c.args.t)) i.outs i.outs i.steps i.steps_after_end i.steps i.steps_after_end i.limits is room (omega arith) fits.after_below fits,
      legal_lend i.opened.value i.journal c.add.new.self c.args.seat c.args.t is ready c.self.invariant.2,
    )

pub returns-clause-lent : goal.returns-clause-lent
returns-clause-lent c =
    let i = c.self.inside in
    let ready = ap (λ (s : Session). is_ready (world s) c.args.t) c.self.view_is ∙ c.requires.ready in
    lent_then i.opened.value i.journal c.add.new.self c.args.seat c.args.t c.in_default-add.ensures.ok ready
