use Rattle.std.proofs.Common.{◌≡◌, ◌<◌, length, ap, ◌∙◌, arith}
use Rattle.server_rules.specs.Rules.{rules}
use Rattle.session_model.specs.declared.event.Event.TheVariants.{Drain}
use Rattle.session_model.specs.Journal.{run}
use Rattle.swank_core.specs.Session.{Session, world}
use Rattle.swank_core.proofs.LegalLemmas.{legal_drain}
use Rattle.swank_core.proofs.TiesLemmas.{entry, fits_drain, none_drained, ties_drain}
use Rattle.swank_core.proofs.state.Core.drain.Goals as goal

pub add_drain-requires : goal.add_drain-requires
add_drain-requires c =
    let i = c.self.inside in
    let all : length (run rules i.opened.value i.journal).undrained ≡ length (world c.args.self.now).undrained = ap (λ (s : Session). length (world s).undrained) c.self.view_is in
    record { apart = none_drained i.opened.value i.journal (omega (arith, all, c.requires.some)) }

pub invariant_of-self : goal.invariant_of-self
invariant_of-self c =
    let i = c.self.inside in
    let ties = c.self.invariant.0 in
    let fits = c.self.invariant.1 in
    let is = c.add_drain.ensures in
    let empty = c.replace.ensures.after ∙ c.new.ensures in
    let all : length (run rules i.opened.value i.journal).undrained ≡ length (world c.args.self.now).undrained = ap (λ (s : Session). length (world s).undrained) c.self.view_is in
    let kept : length i.outs ≡ length (run rules i.opened.value i.journal).undrained = ap length ties.outs_are in
    let some : 0 < length i.outs = omega (arith, all, kept, c.requires.some) in
    let whole = c.len.ensures ∙ ap length ties.outs_are in (
      ties_drain i.opened.value i.journal c.add_drain.new.self c.args.seat c.len.result i.live i.outs c.replace.new.dest i.steps i.steps_after_end i.ended i.failed empty is ties,
      fits_drain i.journal c.add_drain.new.self (entry c.args.seat (Drain c.len.result)) i.outs c.replace.new.dest i.steps i.steps_after_end i.limits is some empty fits,
      legal_drain i.opened.value i.journal c.add_drain.new.self c.args.seat c.len.result is (omega (arith, c.len.ensures, some)) whole c.self.invariant.2,
    )

pub returns-clause-legal : goal.returns-clause-legal
returns-clause-legal c = (invariant_of-self c).2.legal
