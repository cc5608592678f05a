use Rattle.std.proofs.Common.{Some, refl, ap, ◌∙◌, arith}
use Rattle.swank_core.specs.Threads.{thread_of}
use Rattle.swank_core.specs.declared.record.Record.{Record}
use Rattle.swank_core.proofs.ThreadLemmas.{lends_broken, lends_whole}
use Rattle.swank_core.proofs.record.Record.lend.Goals as goal
use Rattle.swank_core.proofs.record.Record.lend.Goals.{then-self-gt0, else-self-gt0}

pub returns-clause-thread : goal.returns-clause-thread
returns-clause-thread c =
    let x = c.if-self-gt0.self in
    elim c.if-self-gt0.branch [
      | then-self-gt0 w ↦
          lends_broken c.args.self.now (record { machine = x.machine; mailbox = x.mailbox; interrupts = x.interrupts; lent = Some c.args.seat }) c.args.seat w.if-self-gt0.true
          (ap (λ (r : Record). r.machine.stack) w.self-is ∙ w.interrupt.ensures.stack) (ap (λ (r : Record). r.mailbox) w.self-is) (ap (λ (r : Record). r.interrupts) w.self-is) refl
      | else-self-gt0 w ↦
          ap (λ (r : Record). record (thread_of r) { lent = Some c.args.seat }) w.self-is
          ∙ lends_whole c.args.self.now c.args.seat (omega (arith, w.if-self-gt0.false))
    ]
