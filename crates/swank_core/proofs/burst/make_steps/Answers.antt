use Rattle.std.proofs.Common.{◌+◌, refl, sym, ◌∙◌, subst, arith}
use Rattle.swank_core.specs.Bursts.{Runs, Steps}
use Rattle.swank_core.proofs.BurstLemmas.{going_start, going_shows, going_on, going_over, going_waits, world_of}
use Rattle.swank_core.proofs.burst.make_steps.Goals as goal

pub loop-steps-init : goal.loop-steps-init
loop-steps-init c = record {
  number = refl;
  simple = c.requires.simple;
  within = omega arith;
  going = λ w s. going_start w c.args.max c.args.kept.now c.args.image.now c.args.outs.now s;
}

pub returns-then-over-clause-runs : goal.returns-then-over-clause-runs
returns-then-over-clause-runs c = λ w s.
    let old = c.args.kept.now in
    let now = c.loop-steps in
    let last = c.make_step.new in
    let g = now.invariant.going w s in
    let shows = going_shows w c.args.max now.steps old now.kept c.args.image.now now.image c.args.outs.now now.outs now.invariant.number s g in
    let done = subst (λ b. Steps (world_of w now.steps old) now.kept now.outs last.kept last.image last.outs b) c.if-over.true (c.in_ok-over.ensures.steps (world_of w now.steps old) shows) in
    subst (λ b. Runs w c.args.max old c.args.outs.now last.kept last.image last.outs (now.steps + 1) b) (sym c.if-over.true)
    (going_over w c.args.max now.steps old now.kept last.kept c.args.image.now now.image last.image c.args.outs.now now.outs last.outs c.loop-steps-test.true now.invariant.number s (sym c.can_step.ensures ∙ c.if-can_step.true) g done)

pub loop-steps-preserved : goal.loop-steps-preserved
loop-steps-preserved c = record {
  number = c.in_ok-over.ensures.number ∙ c.loop-steps.invariant.number;
  simple = c.in_ok-over.ensures.simple;
  within = omega (arith, c.loop-steps-test.true);
  going = λ w s.
      let old = c.args.kept.now in
      let now = c.loop-steps in
      let last = c.make_step.new in
      let g = now.invariant.going w s in
      let shows = going_shows w c.args.max now.steps old now.kept c.args.image.now now.image c.args.outs.now now.outs now.invariant.number s g in
      let done = subst (λ b. Steps (world_of w now.steps old) now.kept now.outs last.kept last.image last.outs b) c.if-over.false (c.in_ok-over.ensures.steps (world_of w now.steps old) shows) in
      going_on w c.args.max now.steps old now.kept last.kept c.args.image.now now.image last.image c.args.outs.now now.outs last.outs c.loop-steps-test.true now.invariant.number s (sym c.can_step.ensures ∙ c.if-can_step.true) g done;
}

pub returns-else-can_step-clause-runs : goal.returns-else-can_step-clause-runs
returns-else-can_step-clause-runs c = λ w s.
    let now = c.loop-steps in
    going_waits w c.args.max now.steps c.args.kept.now now.kept c.args.image.now now.image c.args.outs.now now.outs now.invariant.number s (sym c.can_step.ensures ∙ c.if-can_step.false) (now.invariant.going w s)
