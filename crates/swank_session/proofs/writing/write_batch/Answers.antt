use Rattle.std.proofs.Common.{◌≡◌, ◌≢◌, ◌≤◌, ◌++◌, ℕ, List, length, take, ap, ◌∙◌, subst}
use Rattle.outlet.specs.declared.texts.WriteCause.{WriteCause}
use Rattle.outlet.specs.declared.texts.WriteCause.TheVariants as cause
use Rattle.outside_traits.specs.Told.{BothTold}
use Rattle.packet_framing.specs.Frames as packets
use Rattle.session_model.specs.Wire.{frames}
use Rattle.swank_session.specs.Course.{halt_for}
use Rattle.swank_session.specs.declared.ends.Halt.{Halt}
use Rattle.swank_session.specs.declared.ends.Halt.TheVariants as halt
use Rattle.swank_session.proofs.WriteLemmas.{writes-none, writes-part}
use Rattle.swank_session.proofs.writing.write_batch.Goals as goal

pub returns-in_default-clause-writes : goal.returns-in_default-clause-writes
returns-in_default-clause-writes g c = writes-none (g.K.Sink.written c.args.output.now) c.args.sent.now c.args.batch.now

not-stuck : (x : WriteCause) (h : Halt) → h ≡ halt_for x → h ≢ halt.Stuck
not-stuck cause.WriteFault h e f = cc (e, f)
not-stuck cause.NoMemory h e f = cc (e, f)

pub returns-clause-writes : goal.returns-clause-writes
returns-clause-writes g c =
    let texts : packets.frames c.as_slice.result.now ≡ frames c.args.batch.now = ap packets.frames (c.as_slice.ensures ∙ c.in-Ok.ensures.texts) in
    writes-part (g.K.Sink.written c.args.output.now) (g.K.Sink.written c.write_texts.new.sink) c.args.sent.now c.saturating_add-in-Err.result c.in-Err.failure.sent c.args.batch.now c.halt_for.result
    (not-stuck c.in-Err.failure.cause c.halt_for.result c.halt_for.ensures)
    (subst (λ (x : List ℕ). BothTold (g.K.Sink.written c.args.output.now) (g.K.Sink.written c.write_texts.new.sink) (λ old new. new ≡ old ++ take c.in-Err.failure.sent x)) texts c.in-Err.ensures.bytes)
    (subst (λ (x : List ℕ). c.in-Err.failure.sent ≤ length x) texts c.in-Err.ensures.part)
    c.saturating_add-in-Err.ensures
