use Rattle.std.proofs.Common.{◌∙◌, [], true}
use Rattle.session_model.specs.Pipe.{Cursor}
use Rattle.swank_session.specs.Course.{between}
use Rattle.swank_session.proofs.EventLemmas.{over-by}
use Rattle.swank_session.proofs.TurnLemmas.{reaches-from, refused-spends, refused-reaches, spends-from, end-refused, ends-not, end-same, ends-then}
use Rattle.swank_session.proofs.serving.end_input.Goals as goal

abbrev ended : Unit {0} → Cursor
ended _ = between [] true 0

pub returns-in-Err-clause-over : goal.returns-in-Err-clause-over
returns-in-Err-clause-over g c =
    ends-not c.args.core.now c.end_input.new.self c.halt_of.result (end-refused (Unit {0}) c.args.core.now c.end_input.new.self c.in-Err.fault ended c.requires.rest c.requires.more c.in-Err.ensures).later

pub returns-in-Err-clause-spends : goal.returns-in-Err-clause-spends
returns-in-Err-clause-spends g c =
    refused-spends c.args.core.now c.end_input.new.self c.in-Err.fault ended c.halt_of.result (g.K.Sink.written c.args.output.now) c.args.sent.now c.halt_of.ensures
    (end-refused (Unit {0}) c.args.core.now c.end_input.new.self c.in-Err.fault ended c.requires.rest c.requires.more c.in-Err.ensures)

pub returns-in-Err-clause-reaches : goal.returns-in-Err-clause-reaches
returns-in-Err-clause-reaches g c =
    refused-reaches c.args.core.now c.end_input.new.self c.in-Err.fault ended c.halt_of.result (between [] true 0) c.halt_of.ensures
    (end-refused (Unit {0}) c.args.core.now c.end_input.new.self c.in-Err.fault ended c.requires.rest c.requires.more c.in-Err.ensures)

pub run_rounds-requires-clause-paused : goal.run_rounds-requires-clause-paused
run_rounds-requires-clause-paused g c = (over-by c.args.core.now c.end_input.new.self c.requires.rest.paused c.in_default.ensures.1).paused

pub run_rounds-requires-clause-limits : goal.run_rounds-requires-clause-limits
run_rounds-requires-clause-limits g c = (over-by c.args.core.now c.end_input.new.self c.requires.rest.paused c.in_default.ensures.1).limits ∙ c.requires.limits

pub returns-clause-over : goal.returns-clause-over
returns-clause-over g c =
    ends-then c.args.core.now c.end_input.new.self c.run_rounds.new.core c.run_rounds.result (over-by c.args.core.now c.end_input.new.self c.requires.rest.paused c.in_default.ensures.1) c.run_rounds.ensures.onward

pub returns-clause-spends : goal.returns-clause-spends
returns-clause-spends g c =
    spends-from c.args.core.now c.end_input.new.self c.run_rounds.new.core (g.K.Sink.written c.args.output.now) (g.K.Sink.written c.run_rounds.new.output) c.args.sent.now c.run_rounds.new.sent c.run_rounds.result
    (over-by c.args.core.now c.end_input.new.self c.requires.rest.paused c.in_default.ensures.1).drained c.run_rounds.ensures.spends

pub returns-clause-reaches : goal.returns-clause-reaches
returns-clause-reaches g c =
    reaches-from c.args.core.now c.end_input.new.self c.run_rounds.new.core c.run_rounds.result ended (between [] true 0) (between [] true 0)
    (end-same c.args.core.now c.end_input.new.self c.requires.rest c.requires.more c.in_default.ensures.0 c.in_default.ensures.1) (c.run_rounds.ensures.reaches [] true)
