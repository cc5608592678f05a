use Rattle.lisp_step.proofs.StepLemmas.{image-clause, mailbox-clause, outs-clause, over-clause, simple-clause, stack-clause}
use Rattle.lisp_step.proofs.machine.Machine.step.Goals as goal

pub returns-clause-stack : goal.returns-clause-stack
returns-clause-stack c =
    let redex = c.replace_focus-redex in
    stack-clause c.args.self.now.thread c.args.self.now.stack c.args.mailbox.now c.args.image.now c.requires.simple c.perform.result c.task_of.result redex.result redex.new.self c.perform.new.stack
    (record { asks = c.task_of.ensures; old = redex.ensures.old; rest = redex.ensures.new }) c.perform.ensures.stack

pub returns-clause-mailbox : goal.returns-clause-mailbox
returns-clause-mailbox c =
    let redex = c.replace_focus-redex in
    mailbox-clause c.args.self.now.thread c.args.self.now.stack c.args.mailbox.now c.args.image.now c.requires.simple c.perform.result c.task_of.result redex.result redex.new.self c.perform.new.mailbox
    (record { asks = c.task_of.ensures; old = redex.ensures.old; rest = redex.ensures.new }) c.perform.ensures.mailbox

pub returns-clause-image : goal.returns-clause-image
returns-clause-image c =
    let redex = c.replace_focus-redex in
    image-clause c.args.self.now.thread c.args.self.now.stack c.args.mailbox.now c.args.image.now c.requires.simple c.perform.result c.task_of.result redex.result redex.new.self c.perform.new.image
    (record { asks = c.task_of.ensures; old = redex.ensures.old; rest = redex.ensures.new }) c.perform.ensures.image

pub returns-clause-outs : goal.returns-clause-outs
returns-clause-outs c =
    let redex = c.replace_focus-redex in
    outs-clause c.args.self.now.thread c.args.self.now.stack c.args.mailbox.now c.args.image.now c.requires.simple c.perform.result c.task_of.result redex.result redex.new.self c.args.outs.now c.perform.new.outs
    (record { asks = c.task_of.ensures; old = redex.ensures.old; rest = redex.ensures.new }) c.perform.ensures.outs

pub returns-clause-over : goal.returns-clause-over
returns-clause-over c =
    let redex = c.replace_focus-redex in
    over-clause c.args.self.now.thread c.args.self.now.stack c.args.mailbox.now c.args.image.now c.requires.simple c.perform.result c.task_of.result redex.result redex.new.self
    (record { asks = c.task_of.ensures; old = redex.ensures.old; rest = redex.ensures.new }) c.perform.ensures.over

pub returns-clause-simple : goal.returns-clause-simple
returns-clause-simple c =
    let redex = c.replace_focus-redex in
    simple-clause c.args.self.now.thread c.args.self.now.stack c.args.mailbox.now c.args.image.now c.requires.simple c.perform.result c.task_of.result redex.result redex.new.self c.perform.new.stack
    (record { asks = c.task_of.ensures; old = redex.ensures.old; rest = redex.ensures.new }) c.perform.ensures.stack
