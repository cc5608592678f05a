use Rattle.std.proofs.Common.{◌≡◌, ◌+◌, ◌<◌, ◌≤◌, length, refl, sym, ap, ◌∙◌, subst, arith}
use Rattle.server_rules.specs.Rules.{rules}
use Rattle.session_model.specs.declared.event.Event.TheVariants.{Burst}
use Rattle.session_model.specs.Journal.{run}
use Rattle.session_model.specs.Legal.{IsLentTo}
use Rattle.session_model.specs.World.{thread_at}
use Rattle.swank_core.specs.Session.{Session, world}
use Rattle.swank_core.proofs.LegalLemmas.{legal_burst}
use Rattle.swank_core.proofs.TiesLemmas.{before_end, behind_end, entry, fits_more, ties_burst}
use Rattle.swank_core.proofs.state.Core.commit.Goals as goal

pub invariant_of-self-then-self : goal.invariant_of-self-then-self
invariant_of-self-then-self c =
    let i = c.self.inside in
    let ties = c.self.invariant.0 in
    let fits = c.self.invariant.1 in
    let whole = ap (λ (s : Session). s.failed) c.self.view_is ∙ c.in_default.ensures.free.whole in
    let long : length i.journal ≡ length c.args.self.now.journal = ap (λ (s : Session). length s.journal) c.self.view_is in
    let most : i.limits.journal ≡ c.args.self.now.limits.journal = ap (λ (s : Session). s.limits.journal) c.self.view_is in
    let room : length i.journal + 1 < i.limits.journal = omega (arith, long, most, c.in_default.ensures.free.room) in
    let is = c.in_default-write.ensures.journal in
    let m = c.in-Ok.field-0.steps in
    let few : m ≤ 256 = omega (arith, c.in-Ok.ensures.within, c.requires.most) in
    let t = c.args.loan.thread in
    let lent = subst (λ (s : Session). IsLentTo c.args.seat (thread_at (world s) t)) (sym c.self.view_is) c.requires.lent in
    let many = (c.in-Ok.ensures.bursts (run rules i.opened.value i.journal) ties.still (ties.live_is whole)).many in (
      ties_burst i.opened.value i.journal c.write.new.journal c.args.seat c.args.loan.thread c.args.max m i.live c.burst.new.self i.outs c.in-Ok.field-0.told c.write.new.outs i.steps i.steps_after_end (i.steps + m) (i.steps_after_end + m) i.ended i.failed
          is c.in_default-write.ensures.outs refl (sym (ap (λ k. i.steps_after_end + k) (behind_end i.ended c.args.seat c.args.loan.thread m c.if-self.true))) (λ w still e. c.in-Ok.ensures.bursts w still e) c.in-Ok.ensures.long whole ties,
      fits_more i.journal c.write.new.journal (entry c.args.seat (Burst c.args.loan.thread m)) i.outs c.write.new.outs i.steps i.steps_after_end (i.steps + m) (i.steps_after_end + m) i.limits is room (omega (arith, few)) (omega (arith, fits.after_below)) fits,
      legal_burst i.opened.value i.journal c.write.new.journal c.args.seat t c.args.max m is ties.still lent c.requires.some c.requires.most c.in-Ok.ensures.within many c.self.invariant.2,
    )

pub invariant_of-self-else-self : goal.invariant_of-self-else-self
invariant_of-self-else-self c =
    let i = c.self.inside in
    let ties = c.self.invariant.0 in
    let fits = c.self.invariant.1 in
    let whole = ap (λ (s : Session). s.failed) c.self.view_is ∙ c.in_default.ensures.free.whole in
    let long : length i.journal ≡ length c.args.self.now.journal = ap (λ (s : Session). length s.journal) c.self.view_is in
    let most : i.limits.journal ≡ c.args.self.now.limits.journal = ap (λ (s : Session). s.limits.journal) c.self.view_is in
    let room : length i.journal + 1 < i.limits.journal = omega (arith, long, most, c.in_default.ensures.free.room) in
    let is = c.in_default-write.ensures.journal in
    let m = c.in-Ok.field-0.steps in
    let few : m ≤ 256 = omega (arith, c.in-Ok.ensures.within, c.requires.most) in
    let t = c.args.loan.thread in
    let lent = subst (λ (s : Session). IsLentTo c.args.seat (thread_at (world s) t)) (sym c.self.view_is) c.requires.lent in
    let many = (c.in-Ok.ensures.bursts (run rules i.opened.value i.journal) ties.still (ties.live_is whole)).many in (
      ties_burst i.opened.value i.journal c.write.new.journal c.args.seat c.args.loan.thread c.args.max m i.live c.burst.new.self i.outs c.in-Ok.field-0.told c.write.new.outs i.steps i.steps_after_end (i.steps + m) i.steps_after_end i.ended i.failed
          is c.in_default-write.ensures.outs refl (omega (arith, before_end i.ended c.args.seat c.args.loan.thread m c.if-self.false)) (λ w still e. c.in-Ok.ensures.bursts w still e) c.in-Ok.ensures.long whole ties,
      fits_more i.journal c.write.new.journal (entry c.args.seat (Burst c.args.loan.thread m)) i.outs c.write.new.outs i.steps i.steps_after_end (i.steps + m) i.steps_after_end i.limits is room (omega (arith, few)) (omega (arith, fits.after_below)) fits,
      legal_burst i.opened.value i.journal c.write.new.journal c.args.seat t c.args.max m is ties.still lent c.requires.some c.requires.most c.in-Ok.ensures.within many c.self.invariant.2,
    )
