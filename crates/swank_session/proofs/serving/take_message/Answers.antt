use Rattle.std.proofs.Common.{◌∙◌, [], ◌∷◌, false, Err}
use Rattle.session_model.specs.Pipe.{Cursor}
use Rattle.swank_session.specs.Course.{between}
use Rattle.swank_session.proofs.EventLemmas.{later-later}
use Rattle.swank_session.proofs.TurnLemmas.{reaches-from, refused-spends, refused-reaches, spends-from, spends-then, arrive-refused, arrives-not, came-in, arrives-then}
use Rattle.swank_session.proofs.serving.take_message.Goals as goal

abbrev nowhere : Unit {0} → Cursor
nowhere _ = between [] false 0

pub returns-in-Err-clause-arrives : goal.returns-in-Err-clause-arrives
returns-in-Err-clause-arrives g c =
    arrives-not c.args.core.now c.arrive.new.self c.args.m c.halt_of.result
    (arrive-refused (Unit {0}) c.args.core.now c.arrive.new.self c.args.m c.in-Err.fault nowhere c.requires.rest c.requires.more c.in-Err.ensures).later

pub returns-in-Err-clause-spends : goal.returns-in-Err-clause-spends
returns-in-Err-clause-spends g c =
    refused-spends c.args.core.now c.arrive.new.self c.in-Err.fault nowhere c.halt_of.result (g.K.Sink.written c.args.output.now) c.args.sent.now c.halt_of.ensures
    (arrive-refused (Unit {0}) c.args.core.now c.arrive.new.self c.args.m c.in-Err.fault nowhere c.requires.rest c.requires.more c.in-Err.ensures)

pub returns-in-Err-clause-reaches : goal.returns-in-Err-clause-reaches
returns-in-Err-clause-reaches g c messages ends =
    refused-reaches c.args.core.now c.arrive.new.self c.in-Err.fault (λ _. between messages ends 0) c.halt_of.result (between (c.args.m ∷ messages) ends 0) c.halt_of.ensures
    (arrive-refused (Unit {0}) c.args.core.now c.arrive.new.self c.args.m c.in-Err.fault (λ _. between messages ends 0) c.requires.rest c.requires.more c.in-Err.ensures)

pub write_out-requires-clause-free : goal.write_out-requires-clause-free
write_out-requires-clause-free g c = (came-in c.args.core.now c.arrive.new.self c.args.m c.requires.small c.requires.rest c.in_default.ensures.0 c.in_default.ensures.1).came.free

pub write_out-requires-clause-room : goal.write_out-requires-clause-room
write_out-requires-clause-room g c = (came-in c.args.core.now c.arrive.new.self c.args.m c.requires.small c.requires.rest c.in_default.ensures.0 c.in_default.ensures.1).room

pub returns-in-Err-write_out-clause-arrives : goal.returns-in-Err-write_out-clause-arrives
returns-in-Err-write_out-clause-arrives g c =
    arrives-then c.args.core.now c.arrive.new.self c.write_out.new.core c.args.m (Err c.in-Err-write_out.halt)
    (came-in c.args.core.now c.arrive.new.self c.args.m c.requires.small c.requires.rest c.in_default.ensures.0 c.in_default.ensures.1)
    c.write_out.ensures.onward

pub returns-in-Err-write_out-clause-spends : goal.returns-in-Err-write_out-clause-spends
returns-in-Err-write_out-clause-spends g c =
    spends-from c.args.core.now c.arrive.new.self c.write_out.new.core (g.K.Sink.written c.args.output.now) (g.K.Sink.written c.write_out.new.output) c.args.sent.now c.write_out.new.sent (Err c.in-Err-write_out.halt)
    (came-in c.args.core.now c.arrive.new.self c.args.m c.requires.small c.requires.rest c.in_default.ensures.0 c.in_default.ensures.1).came.drained
    c.in-Err-write_out.ensures.spends

pub returns-in-Err-write_out-clause-reaches : goal.returns-in-Err-write_out-clause-reaches
returns-in-Err-write_out-clause-reaches g c messages ends =
    reaches-from c.args.core.now c.arrive.new.self c.write_out.new.core (Err c.in-Err-write_out.halt) (λ _. between messages ends 0) (between messages ends 0) (between (c.args.m ∷ messages) ends 0)
    ((came-in c.args.core.now c.arrive.new.self c.args.m c.requires.small c.requires.rest c.in_default.ensures.0 c.in_default.ensures.1).same messages ends)
    (c.in-Err-write_out.ensures.reaches (between messages ends 0))

pub run_rounds-requires-clause-limits : goal.run_rounds-requires-clause-limits
run_rounds-requires-clause-limits g c =
    c.write_out.ensures.onward.limits ∙ (came-in c.args.core.now c.arrive.new.self c.args.m c.requires.small c.requires.rest c.in_default.ensures.0 c.in_default.ensures.1).came.limits ∙ c.requires.limits

pub returns-clause-arrives : goal.returns-clause-arrives
returns-clause-arrives g c =
    arrives-then c.args.core.now c.arrive.new.self c.run_rounds.new.core c.args.m c.run_rounds.result
    (came-in c.args.core.now c.arrive.new.self c.args.m c.requires.small c.requires.rest c.in_default.ensures.0 c.in_default.ensures.1)
    (later-later c.arrive.new.self c.write_out.new.core c.run_rounds.new.core c.write_out.ensures.onward c.run_rounds.ensures.onward)

pub returns-clause-spends : goal.returns-clause-spends
returns-clause-spends g c =
    let w0 = g.K.Sink.written c.args.output.now in
    let w1 = g.K.Sink.written c.write_out.new.output in
    let w2 = g.K.Sink.written c.run_rounds.new.output in
    spends-from c.args.core.now c.arrive.new.self c.run_rounds.new.core w0 w2 c.args.sent.now c.run_rounds.new.sent c.run_rounds.result
    (came-in c.args.core.now c.arrive.new.self c.args.m c.requires.small c.requires.rest c.in_default.ensures.0 c.in_default.ensures.1).came.drained
    (spends-then c.arrive.new.self c.write_out.new.core c.run_rounds.new.core w0 w1 w2 c.args.sent.now c.write_out.new.sent c.run_rounds.new.sent c.run_rounds.result c.in_default-write_out.ensures.spends.pays c.run_rounds.ensures.spends)

pub returns-clause-reaches : goal.returns-clause-reaches
returns-clause-reaches g c messages ends =
    reaches-from c.args.core.now c.write_out.new.core c.run_rounds.new.core c.run_rounds.result (λ _. between messages ends 0) (between messages ends 0) (between (c.args.m ∷ messages) ends 0)
    (c.in_default-write_out.ensures.reaches (between messages ends 0) ∙ (came-in c.args.core.now c.arrive.new.self c.args.m c.requires.small c.requires.rest c.in_default.ensures.0 c.in_default.ensures.1).same messages ends)
    (c.run_rounds.ensures.reaches messages ends)
