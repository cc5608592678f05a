use Rattle.std.proofs.Common.{ℕ, [], false, Err, ap, arith}
use Rattle.session_model.specs.declared.limits.Limits.{Limits}
use Rattle.session_model.specs.Pipe.{Cursor}
use Rattle.swank_core.specs.declared.loan.Loan.{Loan}
use Rattle.swank_session.specs.Course.{between}
use Rattle.swank_session.proofs.EventLemmas.{later-later}
use Rattle.swank_session.proofs.ScheduleLemmas.{lending}
use Rattle.swank_session.proofs.TurnLemmas.{reaches-from, refused-spends, refused-reaches, spends-from, lend-refused, begun-by, burst-refused, made-by, on-ok, nearer-by}
use Rattle.swank_session.proofs.serving.run_thread.Goals as goal

-- no message is to come: a cursor for what doesn't depend on it
abbrev nowhere : Unit {0} → Cursor
nowhere _ = between [] false 0

pub returns-in-Err-clause-spends : goal.returns-in-Err-clause-spends
returns-in-Err-clause-spends g c =
    refused-spends c.args.core.now c.lend.new.self c.in-Err.fault nowhere c.halt_of.result (g.K.Sink.written c.args.output.now) c.args.sent.now c.halt_of.ensures
    (lend-refused Loan c.args.core.now c.lend.new.self c.args.t c.in-Err.fault nowhere c.requires.paused c.requires.ready c.in-Err.ensures.adds)

pub returns-in-Err-clause-reaches : goal.returns-in-Err-clause-reaches
returns-in-Err-clause-reaches g c messages ends r found =
    refused-reaches c.args.core.now c.lend.new.self c.in-Err.fault (λ _. between messages ends c.args.t) c.halt_of.result (between messages ends r) c.halt_of.ensures
    (lend-refused Loan c.args.core.now c.lend.new.self c.args.t c.in-Err.fault (λ _. between messages ends c.args.t) c.requires.paused c.requires.ready c.in-Err.ensures.adds)

pub returns-in-Err-commit-clause-onward : goal.returns-in-Err-commit-clause-onward
returns-in-Err-commit-clause-onward g c =
    let lent = c.in-Ok.ensures.adds in
    let begun = begun-by c.args.core.now c.lend.new.self c.args.t c.requires.paused c.requires.ready c.requires.left lent.0 lent.1 in
    later-later c.args.core.now c.lend.new.self c.commit.new.self begun.lent.later
    (burst-refused {A = ℕ} c.args.core.now c.lend.new.self c.commit.new.self c.args.t (λ n. n) c.in-Ok.loan.thread c.in-Err-commit.fault nowhere begun c.in-Ok.ensures.lent c.in-Err-commit.ensures.adds).later

pub returns-in-Err-commit-clause-spends : goal.returns-in-Err-commit-clause-spends
returns-in-Err-commit-clause-spends g c =
    let lent = c.in-Ok.ensures.adds in
    let begun = begun-by c.args.core.now c.lend.new.self c.args.t c.requires.paused c.requires.ready c.requires.left lent.0 lent.1 in
    let w = g.K.Sink.written c.args.output.now in
    spends-from c.args.core.now c.lend.new.self c.commit.new.self w w c.args.sent.now c.args.sent.now (Err c.halt_of-in-Err-commit.result) begun.lent.drained
    (refused-spends c.lend.new.self c.commit.new.self c.in-Err-commit.fault nowhere c.halt_of-in-Err-commit.result w c.args.sent.now c.halt_of-in-Err-commit.ensures
    (burst-refused {A = ℕ} c.args.core.now c.lend.new.self c.commit.new.self c.args.t (λ n. n) c.in-Ok.loan.thread c.in-Err-commit.fault nowhere begun c.in-Ok.ensures.lent c.in-Err-commit.ensures.adds))

pub returns-in-Err-commit-clause-reaches : goal.returns-in-Err-commit-clause-reaches
returns-in-Err-commit-clause-reaches g c messages ends r found =
    let lent = c.in-Ok.ensures.adds in
    let begun = begun-by c.args.core.now c.lend.new.self c.args.t c.requires.paused c.requires.ready c.requires.left lent.0 lent.1 in
    reaches-from c.args.core.now c.lend.new.self c.commit.new.self (Err c.halt_of-in-Err-commit.result) (λ _. between messages ends c.args.t) (lending messages ends c.args.t) (between messages ends r) (begun.same messages ends r found)
    (refused-reaches c.lend.new.self c.commit.new.self c.in-Err-commit.fault (λ _. between messages ends c.args.t) c.halt_of-in-Err-commit.result (lending messages ends c.args.t) c.halt_of-in-Err-commit.ensures
    (burst-refused {A = ℕ} c.args.core.now c.lend.new.self c.commit.new.self c.args.t (λ n. n) c.in-Ok.loan.thread c.in-Err-commit.fault (λ _. between messages ends c.args.t) begun c.in-Ok.ensures.lent c.in-Err-commit.ensures.adds))

pub write_out-requires-clause-free : goal.write_out-requires-clause-free
write_out-requires-clause-free g c =
    let lent = c.in-Ok.ensures.adds in
    let made = c.in_default.ensures.adds in
    let begun = begun-by c.args.core.now c.lend.new.self c.args.t c.requires.paused c.requires.ready c.requires.left lent.0 lent.1 in
    (made-by c.args.core.now c.lend.new.self c.commit.new.self c.args.t c.in-Ok.loan.thread c.in_default.field-0 c.min-most.result c.requires.paused c.requires.ready begun c.in-Ok.ensures.thread made.0 made.1 c.in_default.ensures.steps
    (omega (arith, c.min-most.ensures, c.steps.ensures, ap (λ (x : Limits). x.steps) c.requires.limits))).free

pub returns-clause-onward : goal.returns-clause-onward
returns-clause-onward g c =
    let lent = c.in-Ok.ensures.adds in
    let made = c.in_default.ensures.adds in
    let begun = begun-by c.args.core.now c.lend.new.self c.args.t c.requires.paused c.requires.ready c.requires.left lent.0 lent.1 in
    later-later c.args.core.now c.commit.new.self c.write_out.new.core
    (made-by c.args.core.now c.lend.new.self c.commit.new.self c.args.t c.in-Ok.loan.thread c.in_default.field-0 c.min-most.result c.requires.paused c.requires.ready begun c.in-Ok.ensures.thread made.0 made.1 c.in_default.ensures.steps
    (omega (arith, c.min-most.ensures, c.steps.ensures, ap (λ (x : Limits). x.steps) c.requires.limits))).later
    c.write_out.ensures.onward

pub returns-clause-spends : goal.returns-clause-spends
returns-clause-spends g c =
    let lent = c.in-Ok.ensures.adds in
    let made = c.in_default.ensures.adds in
    let begun = begun-by c.args.core.now c.lend.new.self c.args.t c.requires.paused c.requires.ready c.requires.left lent.0 lent.1 in
    spends-from c.args.core.now c.commit.new.self c.write_out.new.core (g.K.Sink.written c.args.output.now) (g.K.Sink.written c.write_out.new.output) c.args.sent.now c.write_out.new.sent c.write_out.result
    (made-by c.args.core.now c.lend.new.self c.commit.new.self c.args.t c.in-Ok.loan.thread c.in_default.field-0 c.min-most.result c.requires.paused c.requires.ready begun c.in-Ok.ensures.thread made.0 made.1 c.in_default.ensures.steps
    (omega (arith, c.min-most.ensures, c.steps.ensures, ap (λ (x : Limits). x.steps) c.requires.limits))).drained
    c.write_out.ensures.spends

pub returns-clause-reaches : goal.returns-clause-reaches
returns-clause-reaches g c messages ends r found =
    let lent = c.in-Ok.ensures.adds in
    let made = c.in_default.ensures.adds in
    let begun = begun-by c.args.core.now c.lend.new.self c.args.t c.requires.paused c.requires.ready c.requires.left lent.0 lent.1 in
    reaches-from c.args.core.now c.commit.new.self c.write_out.new.core c.write_out.result (λ _. between messages ends c.args.t) (between messages ends c.args.t) (between messages ends r)
    ((made-by c.args.core.now c.lend.new.self c.commit.new.self c.args.t c.in-Ok.loan.thread c.in_default.field-0 c.min-most.result c.requires.paused c.requires.ready begun c.in-Ok.ensures.thread made.0 made.1 c.in_default.ensures.steps
    (omega (arith, c.min-most.ensures, c.steps.ensures, ap (λ (x : Limits). x.steps) c.requires.limits))).same messages ends r found)
    (c.write_out.ensures.reaches (between messages ends c.args.t))

pub returns-clause-nearer : goal.returns-clause-nearer
returns-clause-nearer g c =
    let lent = c.in-Ok.ensures.adds in
    let made = c.in_default.ensures.adds in
    let begun = begun-by c.args.core.now c.lend.new.self c.args.t c.requires.paused c.requires.ready c.requires.left lent.0 lent.1 in
    let m = made-by c.args.core.now c.lend.new.self c.commit.new.self c.args.t c.in-Ok.loan.thread c.in_default.field-0 c.min-most.result c.requires.paused c.requires.ready begun c.in-Ok.ensures.thread made.0 made.1 c.in_default.ensures.steps
    (omega (arith, c.min-most.ensures, c.steps.ensures, ap (λ (x : Limits). x.steps) c.requires.limits)) in
    on-ok c.write_out.result (nearer-by c.args.core.now c.commit.new.self c.write_out.new.core m.longer m.room m.later.limits c.write_out.ensures.onward)
