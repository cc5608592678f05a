use Rattle.std.proofs.Common.{List, sym, subst, arith}
use Rattle.std.specs.Prelude.{All}
use Rattle.rpc_messages.specs.declared.to_emacs.ToEmacs.{ToEmacs}
use Rattle.server_laws.specs.Small.{FitsPacket}
use Rattle.swank_session.specs.Course.{Writes}
use Rattle.swank_session.proofs.EventLemmas.{batch-fits, drained-by}
use Rattle.swank_session.proofs.TurnLemmas.{out-spends, out-reaches, out-paused}
use Rattle.swank_session.proofs.writing.write_out.Goals as goal

pub write_batch-requires : goal.write_batch-requires
write_batch-requires g c =
    let drained = drained-by c.args.core.now c.drain-batch.new.self c.drain-batch.result c.drain-batch.ensures.outputs c.drain-batch.ensures.adds (omega (arith, c.undrained.ensures)) c.requires.room in
    record { fit = subst (All FitsPacket) (sym c.as_slice.ensures) (batch-fits c.args.core.now c.drain-batch.new.self c.drain-batch.result drained (drained.free c.requires.free).live.framed c.drain-batch.ensures.legal) }

pub returns-clause-onward : goal.returns-clause-onward
returns-clause-onward g c = (drained-by c.args.core.now c.drain-batch.new.self c.drain-batch.result c.drain-batch.ensures.outputs c.drain-batch.ensures.adds (omega (arith, c.undrained.ensures)) c.requires.room).later

pub returns-clause-spends : goal.returns-clause-spends
returns-clause-spends g c =
    out-spends c.args.core.now c.drain-batch.new.self c.drain-batch.result
    (drained-by c.args.core.now c.drain-batch.new.self c.drain-batch.result c.drain-batch.ensures.outputs c.drain-batch.ensures.adds (omega (arith, c.undrained.ensures)) c.requires.room)
    (g.K.Sink.written c.args.output.now) (g.K.Sink.written c.write_batch.new.output) c.args.sent.now c.write_batch.new.sent c.write_batch.result
    (subst (λ (x : List ToEmacs). Writes (g.K.Sink.written c.args.output.now) (g.K.Sink.written c.write_batch.new.output) c.args.sent.now c.write_batch.new.sent x c.write_batch.result) c.as_slice.ensures c.write_batch.ensures.writes)
    c.requires.free

pub returns-clause-reaches : goal.returns-clause-reaches
returns-clause-reaches g c =
    out-reaches c.args.core.now c.drain-batch.new.self c.drain-batch.result
    (drained-by c.args.core.now c.drain-batch.new.self c.drain-batch.result c.drain-batch.ensures.outputs c.drain-batch.ensures.adds (omega (arith, c.undrained.ensures)) c.requires.room)
    (g.K.Sink.written c.args.output.now) (g.K.Sink.written c.write_batch.new.output) c.args.sent.now c.write_batch.new.sent c.write_batch.result
    (subst (λ (x : List ToEmacs). Writes (g.K.Sink.written c.args.output.now) (g.K.Sink.written c.write_batch.new.output) c.args.sent.now c.write_batch.new.sent x c.write_batch.result) c.as_slice.ensures c.write_batch.ensures.writes)
    c.requires.free

pub returns-clause-paused : goal.returns-clause-paused
returns-clause-paused g c =
    out-paused c.args.core.now c.drain-batch.new.self c.drain-batch.result
    (drained-by c.args.core.now c.drain-batch.new.self c.drain-batch.result c.drain-batch.ensures.outputs c.drain-batch.ensures.adds (omega (arith, c.undrained.ensures)) c.requires.room)
    (g.K.Sink.written c.args.output.now) (g.K.Sink.written c.write_batch.new.output) c.args.sent.now c.write_batch.new.sent c.write_batch.result
    (subst (λ (x : List ToEmacs). Writes (g.K.Sink.written c.args.output.now) (g.K.Sink.written c.write_batch.new.output) c.args.sent.now c.write_batch.new.sent x c.write_batch.result) c.as_slice.ensures c.write_batch.ensures.writes)
    c.requires.free
