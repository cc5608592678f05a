use Rattle.std.proofs.Common.{◌∙◌, ℕ, inl, refl, sym, ap, subst, arith}
use Rattle.inlet.specs.declared.pumping.Pumped.TheVariants as pumped
use Rattle.server_laws.proofs.Payloads.{message_small}
use Rattle.swank_core.specs.Session.{Session}
use Rattle.swank_session.specs.Course.{Serves}
use Rattle.swank_session.specs.declared.ends.InputEnd.TheVariants as input
use Rattle.swank_session.proofs.FeedLemmas as feed
use Rattle.swank_session.proofs.ServeLemmas.{serves-first, has-met, serves-next, completes-message, completes-lost, completes-over, completes-told, completes-told-halted}
use Rattle.swank_session.proofs.StreamLemmas.{message-may}
use Rattle.swank_session.proofs.reading.serve.Goals as goal

pub loop-m-init : goal.loop-m-init
loop-m-init g c =
    let core = c.args.core.now in record {
      serves = subst (λ (n : ℕ). Serves (g.S.Source.left c.args.input.now) (g.S.Source.left c.args.input.now) c.new-decoder.result n (g.S.Source.ended c.args.input.now) core core) (sym c.requires.none)
          (serves-first core.opened c.args.limits.now (g.S.Source.left c.args.input.now) c.new-decoder.result (g.S.Source.ended c.args.input.now) core c.requires.names c.new-decoder.ensures c.requires.fresh);
      limits = ap (λ (s : Session). s.limits) c.requires.fresh;
      paid = λ first p. p;
      within = omega (arith, c.requires.none);
      read_later = omega arith;
      write_later = omega arith;
    }

pub returns-in-NoMemory-clause-completes : goal.returns-in-NoMemory-clause-completes
returns-in-NoMemory-clause-completes g c =
    let l = c.loop-m in
    let i = l.invariant in
    let left0 = g.S.Source.left c.args.input.now in
    let left1 = g.S.Source.left l.input in
    let left2 = g.S.Source.left c.pump.new.source in
    let e1 = g.S.Source.ended l.input in
    let e2 = g.S.Source.ended c.pump.new.source in
    let w0 = g.K.Sink.written c.args.output.now in
    let w1 = g.K.Sink.written l.output in
    completes-lost left0 left1 left2 l.decoder c.pump.new.decoder l.counts.taken c.pump.new.taken e1 e2 c.args.core.now l.core i.serves w0 w1 w1 c.args.counts.now.sent l.counts.sent l.counts.sent i.paid c.in-NoMemory.ensures.pumps

pub returns-in-BadHeader-clause-completes : goal.returns-in-BadHeader-clause-completes
returns-in-BadHeader-clause-completes g c =
    let l = c.loop-m in
    let i = l.invariant in
    let left0 = g.S.Source.left c.args.input.now in
    let left1 = g.S.Source.left l.input in
    let left2 = g.S.Source.left c.pump.new.source in
    let e1 = g.S.Source.ended l.input in
    let e2 = g.S.Source.ended c.pump.new.source in
    let w0 = g.K.Sink.written c.args.output.now in
    let w1 = g.K.Sink.written l.output in
    completes-over left0 left1 left2 l.decoder c.pump.new.decoder l.counts.taken c.pump.new.taken e1 e2 c.args.core.now l.core i.serves w0 w1 w1 c.args.counts.now.sent l.counts.sent l.counts.sent i.paid pumped.BadHeader input.BadHeader feed.bad_header refl refl (has-met left0 left1 l.decoder l.counts.taken e1 e2 c.args.core.now l.core pumped.BadHeader i.serves c.in-BadHeader.ensures.met c.in-BadHeader.ensures.ended) c.in-BadHeader.ensures.pumps

pub returns-in-ReadFault-clause-completes : goal.returns-in-ReadFault-clause-completes
returns-in-ReadFault-clause-completes g c =
    let l = c.loop-m in
    let i = l.invariant in
    let left0 = g.S.Source.left c.args.input.now in
    let left1 = g.S.Source.left l.input in
    let left2 = g.S.Source.left c.pump.new.source in
    let e1 = g.S.Source.ended l.input in
    let e2 = g.S.Source.ended c.pump.new.source in
    let w0 = g.K.Sink.written c.args.output.now in
    let w1 = g.K.Sink.written l.output in
    completes-over left0 left1 left2 l.decoder c.pump.new.decoder l.counts.taken c.pump.new.taken e1 e2 c.args.core.now l.core i.serves w0 w1 w1 c.args.counts.now.sent l.counts.sent l.counts.sent i.paid pumped.ReadFault input.ReadFault feed.read_fault refl refl (has-met left0 left1 l.decoder l.counts.taken e1 e2 c.args.core.now l.core pumped.ReadFault i.serves c.in-ReadFault.ensures.met c.in-ReadFault.ensures.ended) c.in-ReadFault.ensures.pumps

pub returns-in-InputLimit-clause-completes : goal.returns-in-InputLimit-clause-completes
returns-in-InputLimit-clause-completes g c =
    let l = c.loop-m in
    let i = l.invariant in
    let left0 = g.S.Source.left c.args.input.now in
    let left1 = g.S.Source.left l.input in
    let left2 = g.S.Source.left c.pump.new.source in
    let e1 = g.S.Source.ended l.input in
    let e2 = g.S.Source.ended c.pump.new.source in
    let w0 = g.K.Sink.written c.args.output.now in
    let w1 = g.K.Sink.written l.output in
    completes-over left0 left1 left2 l.decoder c.pump.new.decoder l.counts.taken c.pump.new.taken e1 e2 c.args.core.now l.core i.serves w0 w1 w1 c.args.counts.now.sent l.counts.sent l.counts.sent i.paid pumped.InputLimit input.InputLimit feed.long refl refl (has-met left0 left1 l.decoder l.counts.taken e1 e2 c.args.core.now l.core pumped.InputLimit i.serves c.in-InputLimit.ensures.met c.in-InputLimit.ensures.ended) c.in-InputLimit.ensures.pumps

pub returns-in-Err-clause-completes : goal.returns-in-Err-clause-completes
returns-in-Err-clause-completes g c =
    let l = c.loop-m in
    let i = l.invariant in
    let left0 = g.S.Source.left c.args.input.now in
    let left1 = g.S.Source.left l.input in
    let left2 = g.S.Source.left c.pump.new.source in
    let e1 = g.S.Source.ended l.input in
    let e2 = g.S.Source.ended c.pump.new.source in
    let w0 = g.K.Sink.written c.args.output.now in
    let w1 = g.K.Sink.written l.output in
    completes-told-halted left0 left1 left2 l.decoder c.pump.new.decoder l.counts.taken c.pump.new.taken e1 e2 c.args.core.now l.core i.serves w0 w1 (g.K.Sink.written c.end_input.new.output) c.args.counts.now.sent l.counts.sent c.end_input.new.sent i.paid pumped.End input.Whole c.end_input.new.core c.in-Err.halt feed.whole refl (has-met left0 left1 l.decoder l.counts.taken e1 e2 c.args.core.now l.core pumped.End i.serves c.in-End.ensures.met c.in-End.ensures.ended) c.in-End.ensures.pumps c.in-Err.ensures.over c.in-Err.ensures.spends c.in-Err.ensures.reaches

pub returns-in-End-clause-completes : goal.returns-in-End-clause-completes
returns-in-End-clause-completes g c =
    let l = c.loop-m in
    let i = l.invariant in
    let left0 = g.S.Source.left c.args.input.now in
    let left1 = g.S.Source.left l.input in
    let left2 = g.S.Source.left c.pump.new.source in
    let e1 = g.S.Source.ended l.input in
    let e2 = g.S.Source.ended c.pump.new.source in
    let w0 = g.K.Sink.written c.args.output.now in
    let w1 = g.K.Sink.written l.output in
    completes-told left0 left1 left2 l.decoder c.pump.new.decoder l.counts.taken c.pump.new.taken e1 e2 c.args.core.now l.core i.serves w0 w1 (g.K.Sink.written c.end_input.new.output) c.args.counts.now.sent l.counts.sent c.end_input.new.sent i.paid pumped.End input.Whole c.end_input.new.core feed.whole refl refl (has-met left0 left1 l.decoder l.counts.taken e1 e2 c.args.core.now l.core pumped.End i.serves c.in-End.ensures.met c.in-End.ensures.ended) (c.in-End.ensures.empty refl) c.in-End.ensures.pumps c.in_default.ensures.over c.in_default.ensures.rest c.in_default.ensures.spends c.in_default.ensures.reaches

pub returns-in-Err-end_input-clause-completes : goal.returns-in-Err-end_input-clause-completes
returns-in-Err-end_input-clause-completes g c =
    let l = c.loop-m in
    let i = l.invariant in
    let left0 = g.S.Source.left c.args.input.now in
    let left1 = g.S.Source.left l.input in
    let left2 = g.S.Source.left c.pump.new.source in
    let e1 = g.S.Source.ended l.input in
    let e2 = g.S.Source.ended c.pump.new.source in
    let w0 = g.K.Sink.written c.args.output.now in
    let w1 = g.K.Sink.written l.output in
    completes-told-halted left0 left1 left2 l.decoder c.pump.new.decoder l.counts.taken c.pump.new.taken e1 e2 c.args.core.now l.core i.serves w0 w1 (g.K.Sink.written c.end_input-in-Truncated.new.output) c.args.counts.now.sent l.counts.sent c.end_input-in-Truncated.new.sent i.paid pumped.Truncated input.Truncated c.end_input-in-Truncated.new.core c.in-Err-end_input.halt feed.truncated refl (has-met left0 left1 l.decoder l.counts.taken e1 e2 c.args.core.now l.core pumped.Truncated i.serves c.in-Truncated.ensures.met c.in-Truncated.ensures.ended) c.in-Truncated.ensures.pumps c.in-Err-end_input.ensures.over c.in-Err-end_input.ensures.spends c.in-Err-end_input.ensures.reaches

pub returns-in-Truncated-clause-completes : goal.returns-in-Truncated-clause-completes
returns-in-Truncated-clause-completes g c =
    let l = c.loop-m in
    let i = l.invariant in
    let left0 = g.S.Source.left c.args.input.now in
    let left1 = g.S.Source.left l.input in
    let left2 = g.S.Source.left c.pump.new.source in
    let e1 = g.S.Source.ended l.input in
    let e2 = g.S.Source.ended c.pump.new.source in
    let w0 = g.K.Sink.written c.args.output.now in
    let w1 = g.K.Sink.written l.output in
    completes-told left0 left1 left2 l.decoder c.pump.new.decoder l.counts.taken c.pump.new.taken e1 e2 c.args.core.now l.core i.serves w0 w1 (g.K.Sink.written c.end_input-in-Truncated.new.output) c.args.counts.now.sent l.counts.sent c.end_input-in-Truncated.new.sent i.paid pumped.Truncated input.Truncated c.end_input-in-Truncated.new.core feed.truncated refl refl (has-met left0 left1 l.decoder l.counts.taken e1 e2 c.args.core.now l.core pumped.Truncated i.serves c.in-Truncated.ensures.met c.in-Truncated.ensures.ended) (c.in-Truncated.ensures.empty refl) c.in-Truncated.ensures.pumps c.in_default-end_input.ensures.over c.in_default-end_input.ensures.rest c.in_default-end_input.ensures.spends c.in_default-end_input.ensures.reaches

pub take_message-requires-clause-may : goal.take_message-requires-clause-may
take_message-requires-clause-may g c = message-may c.in-Message.ensures.pumps.answer.is

pub take_message-requires-clause-small : goal.take_message-requires-clause-small
take_message-requires-clause-small g c = message_small c.in-Message.ensures.pumps.answer.is

pub returns-in-Err-take_message-clause-completes : goal.returns-in-Err-take_message-clause-completes
returns-in-Err-take_message-clause-completes g c =
    let l = c.loop-m in
    let i = l.invariant in
    let left0 = g.S.Source.left c.args.input.now in
    let left1 = g.S.Source.left l.input in
    let left2 = g.S.Source.left c.pump.new.source in
    let e1 = g.S.Source.ended l.input in
    let e2 = g.S.Source.ended c.pump.new.source in
    let w0 = g.K.Sink.written c.args.output.now in
    let w1 = g.K.Sink.written l.output in
    completes-message left0 left1 left2 l.decoder c.pump.new.decoder l.counts.taken c.pump.new.taken e1 e2 c.args.core.now l.core i.serves w0 w1 (g.K.Sink.written c.take_message.new.output) c.args.counts.now.sent l.counts.sent c.take_message.new.sent i.paid c.in-Message.m c.take_message.new.core c.in-Err-take_message.halt c.in-Message.ensures.pumps (c.in-Message.ensures.few (inl i.serves.few) tt) c.in-Err-take_message.ensures.arrives c.in-Err-take_message.ensures.spends c.in-Err-take_message.ensures.reaches

pub loop-m-preserved : goal.loop-m-preserved
loop-m-preserved g c =
    let l = c.loop-m in
    let i = l.invariant in
    let left0 = g.S.Source.left c.args.input.now in
    let left1 = g.S.Source.left l.input in
    let left2 = g.S.Source.left c.pump.new.source in
    let e1 = g.S.Source.ended l.input in
    let e2 = g.S.Source.ended c.pump.new.source in
    let t = c.in_default-take_message.ensures in
    record {
      serves = serves-next left0 left1 left2 l.decoder c.pump.new.decoder l.counts.taken c.pump.new.taken e1 e2 c.args.core.now l.core i.serves c.in-Message.m c.take_message.new.core c.in-Message.ensures.pumps
          (has-met left0 left1 l.decoder l.counts.taken e1 e2 c.args.core.now l.core (pumped.Message c.in-Message.m) i.serves c.in-Message.ensures.met c.in-Message.ensures.ended) (c.in-Message.ensures.few (inl i.serves.few) tt) t.arrives t.rest t.reaches;
      limits = t.arrives.limits ∙ i.limits;
      paid = λ first p. t.spends.pays first (i.paid first p);
      within = c.pump.ensures.within;
      read_later = omega (arith, i.read_later, c.pump.ensures.later);
      write_later = omega (arith, i.write_later, c.take_message.ensures.later);
    }
