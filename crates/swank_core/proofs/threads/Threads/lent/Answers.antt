use Rattle.std.proofs.Common.{◌≡◌, List, ap, ◌∙◌, arith}
use Rattle.swank_core.specs.Session.{lent_among}
use Rattle.swank_core.specs.declared.record.Record.{Record}
use Rattle.swank_core.proofs.TableLemmas.{lent_is, lives}
use Rattle.swank_core.proofs.threads.Threads.lent.Goals as goal

pub loop-record-init : goal.loop-record-init
loop-record-init c =
    let all : lent_among (lives c.deref-record-items.result.now) ≡ lent_among c.args.self.now =
    ap (λ (rs : List Record). lent_among (lives rs)) c.deref-record-items.ensures.value
    ∙ lent_is c.self.inside.next c.self.inside.records.items c.self.invariant
    ∙ ap lent_among c.self.view_is in
    (omega (arith, all), omega arith)
