use Rattle.std.proofs.Common.{◌∙◌, false, Err, refl, sym, ap, arith}
use Rattle.session_model.specs.declared.limits.Limits.{Limits}
use Rattle.swank_session.specs.Course.{between}
use Rattle.swank_session.specs.declared.ends.Halt.TheVariants as halt
use Rattle.swank_session.proofs.EventLemmas.{later-later, later-same}
use Rattle.swank_session.proofs.TurnLemmas.{reaches-from, reaches-err, spends-then, closed-reaches, closed-spends, spent-reaches, spent-spends, at-rest, rest-round}
use Rattle.swank_session.proofs.serving.run_rounds.Goals as goal

pub loop-alloc-init : goal.loop-alloc-init
loop-alloc-init g c = record {
  paused = c.requires.paused;
  limits = c.requires.limits;
  onward = later-same c.args.core.now;
  paid = λ first p. p;
  same = λ messages ends. refl;
  later = omega arith;
}

pub returns-then-closed-clause-spends : goal.returns-then-closed-clause-spends
returns-then-closed-clause-spends g c =
    let l = c.loop-alloc in
    spends-then c.args.core.now l.core l.core (g.K.Sink.written c.args.output.now) (g.K.Sink.written l.output) (g.K.Sink.written l.output) c.args.sent.now l.sent l.sent (Err halt.Stuck) l.invariant.paid
    (closed-spends l.core (g.K.Sink.written l.output) l.sent l.invariant.paused (sym c.closed.ensures ∙ c.if-closed.true))

pub returns-then-closed-clause-reaches : goal.returns-then-closed-clause-reaches
returns-then-closed-clause-reaches g c messages ends =
    let l = c.loop-alloc in
    closed-reaches {A = Unit {0}} l.core (λ _. between messages ends 0) (between messages ends l.reached) l.invariant.paused (sym c.closed.ensures ∙ c.if-closed.true) ∙ l.invariant.same messages ends

pub returns-in-None-clause-spends : goal.returns-in-None-clause-spends
returns-in-None-clause-spends g c = record { pays = c.loop-alloc.invariant.paid; halts = tt }

pub returns-in-None-clause-reaches : goal.returns-in-None-clause-reaches
returns-in-None-clause-reaches g c messages ends =
    let l = c.loop-alloc in
    sym (rest-round l.core messages ends l.reached (at-rest l.core l.reached l.invariant.paused (sym c.closed.ensures ∙ c.if-closed.false) (sym c.next_of.ensures.is ∙ c.in-None.is))) ∙ l.invariant.same messages ends

pub returns-in-None-clause-rest : goal.returns-in-None-clause-rest
returns-in-None-clause-rest g c =
    let l = c.loop-alloc in
    at-rest l.core l.reached l.invariant.paused (sym c.closed.ensures ∙ c.if-closed.false) (sym c.next_of.ensures.is ∙ c.in-None.is)

pub returns-then-steps-limits-clause-spends : goal.returns-then-steps-limits-clause-spends
returns-then-steps-limits-clause-spends g c =
    let l = c.loop-alloc in
    spends-then c.args.core.now l.core l.core (g.K.Sink.written c.args.output.now) (g.K.Sink.written l.output) (g.K.Sink.written l.output) c.args.sent.now l.sent l.sent (Err halt.Stuck) l.invariant.paid
    (spent-spends l.core (g.K.Sink.written l.output) l.sent l.reached c.in-Some.t l.invariant.paused (sym c.next_of.ensures.is ∙ c.in-Some.is) (omega (arith, c.steps.ensures, ap (λ (x : Limits). x.steps) l.invariant.limits)))

pub returns-then-steps-limits-clause-reaches : goal.returns-then-steps-limits-clause-reaches
returns-then-steps-limits-clause-reaches g c messages ends =
    let l = c.loop-alloc in
    spent-reaches {A = Unit {0}} l.core messages ends l.reached c.in-Some.t (λ _. between messages ends 0) l.invariant.paused (sym c.closed.ensures ∙ c.if-closed.false) (sym c.next_of.ensures.is ∙ c.in-Some.is)
    (omega (arith, c.steps.ensures, ap (λ (x : Limits). x.steps) l.invariant.limits))
    ∙ l.invariant.same messages ends

pub run_thread-requires-clause-left : goal.run_thread-requires-clause-left
run_thread-requires-clause-left g c = omega (arith, c.steps.ensures, ap (λ (x : Limits). x.steps) c.loop-alloc.invariant.limits)

pub returns-in-Err-clause-onward : goal.returns-in-Err-clause-onward
returns-in-Err-clause-onward g c = later-later c.args.core.now c.loop-alloc.core c.run_thread.new.core c.loop-alloc.invariant.onward c.run_thread.ensures.onward

pub returns-in-Err-clause-spends : goal.returns-in-Err-clause-spends
returns-in-Err-clause-spends g c =
    let l = c.loop-alloc in
    spends-then c.args.core.now l.core c.run_thread.new.core (g.K.Sink.written c.args.output.now) (g.K.Sink.written l.output) (g.K.Sink.written c.run_thread.new.output) c.args.sent.now l.sent c.run_thread.new.sent (Err c.in-Err.halt) l.invariant.paid
    c.in-Err.ensures.spends

pub returns-in-Err-clause-reaches : goal.returns-in-Err-clause-reaches
returns-in-Err-clause-reaches g c messages ends =
    let l = c.loop-alloc in
    reaches-from c.args.core.now l.core c.run_thread.new.core (Err c.in-Err.halt) (λ _. between messages ends 0) (between messages ends l.reached) (between messages ends 0) (l.invariant.same messages ends)
    (reaches-err l.core c.run_thread.new.core c.in-Err.halt (λ _. between messages ends c.in-Some.t) (λ _. between messages ends 0) (between messages ends l.reached)
    (c.in-Err.ensures.reaches messages ends l.reached (sym c.next_of.ensures.is ∙ c.in-Some.is)))

pub loop-alloc-preserved : goal.loop-alloc-preserved
loop-alloc-preserved g c =
    let l = c.loop-alloc in
    let i = l.invariant in
    let e = c.in_default.ensures in
    record {
      paused = e.paused;
      limits = c.run_thread.ensures.onward.limits ∙ i.limits;
      onward = later-later c.args.core.now l.core c.run_thread.new.core i.onward c.run_thread.ensures.onward;
      paid = λ first p. e.spends.pays first (i.paid first p);
      same = λ messages ends. e.reaches messages ends l.reached (sym c.next_of.ensures.is ∙ c.in-Some.is) ∙ i.same messages ends;
      later = omega (arith, i.later, c.run_thread.ensures.later);
    }
