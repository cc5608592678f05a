use Rattle.std.proofs.Common.{Ok, drop, rules, length-drop, arith}
use Rattle.std.proofs.lemmas.Grind.{common_steps}
use Rattle.outside_traits.specs.Sink.{Writes}
use Rattle.outside_traits.proofs.WriteLemmas.{adds_on}
use Rattle.outside_traits.proofs.sink.write_all.Goals as goal

pub loop-taken-preserved : goal.loop-taken-preserved
loop-taken-preserved g c =
    let writes : Writes (g.K.Sink.written c.loop-taken.sink) (g.K.Sink.written c.write.new.self) (Ok c.in-Ok.n) (drop c.loop-taken.taken c.args.piece.now) = first_of (search rules, grind (arith, common_steps)) in
    record {
      within = first_of (search rules, omega (arith, c.in-Ok.ensures.bound, length-drop c.loop-taken.taken c.args.piece.now));
      later = first_of (search rules, omega (arith, c.in-Ok.ensures.cause.later));
      bytes = adds_on (g.K.Sink.written c.args.sink.now) (g.K.Sink.written c.loop-taken.sink) (g.K.Sink.written c.write.new.self) c.args.piece.now c.loop-taken.taken c.in-Ok.n c.loop-taken.invariant.bytes writes;
    }
