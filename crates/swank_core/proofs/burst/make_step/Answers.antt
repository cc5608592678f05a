use Rattle.std.proofs.Common.{[], false, refl, ap, ◌∙◌}
use Rattle.std.specs.Prelude.{◌&&◌, ◌==◌, not}
use Rattle.lisp_frames.specs.Stack.{StackState}
use Rattle.lisp_step.specs.Machine as machine
use Rattle.server_rules.specs.Beside.{Beside}
use Rattle.server_rules.specs.Rules.{rules}
use Rattle.server_rules.specs.Simple.{are_simple}
use Rattle.session_model.specs.World.{repl}
use Rattle.step_model.specs.Now.{Now}
use Rattle.step_model.specs.AsBuilt.{step_as_built}
use Rattle.swank_core.specs.Threads.{number_of}
use Rattle.swank_core.specs.declared.record.Record.{Record}
use Rattle.swank_core.proofs.BurstLemmas.{one_step}
use Rattle.swank_core.proofs.burst.make_step.Goals as goal

pub returns-clause-simple : goal.returns-clause-simple
returns-clause-simple c =
    let old = c.args.kept.now in
    let b : Beside = record { tag = 0; inspected = []; threads = []; closed = false } in
    let now : Now = machine.now_of (number_of old) old.machine.stack old.mailbox c.args.image.now b in
    ap (λ (s : StackState). are_simple s.context) (c.in_ok-over.ensures.stack b) ∙ c.threads_stay_simple.ensures.step now c.requires.simple

pub returns-clause-steps : goal.returns-clause-steps
returns-clause-steps c = λ w s.
    let old = c.args.kept.now in
    let done = c.in_ok-over.ensures in
    let new : Record = record { machine = c.step.new.self; mailbox = c.step.new.mailbox; interrupts = old.interrupts; lent = old.lent } in
    one_step c.steps_leave_the_rest.ensures w old new c.args.image.now c.step.new.image c.args.outs.now c.step.new.outs c.ends.result c.requires.simple s
    (λ b. record { stack = done.stack b; mailbox = done.mailbox b; interrupts = refl; lent = refl; image_is = done.image b; outs = done.outs b })
    (λ b.
    let n : Now = step_as_built rules.built rules (machine.now_of (number_of old) old.machine.stack old.mailbox c.args.image.now b) in
    c.ends.ensures ∙ ap (λ o. o && not (c.step.new.self.thread == repl)) (done.over b) ∙ ap (λ t. n.over && not (t == repl)) done.thread)
