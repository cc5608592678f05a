use Rattle.std.proofs.Common.{List, ap, ◌∙◌}
use Rattle.session_model.specs.Legal.{are_idle}
use Rattle.swank_core.specs.declared.record.Record.{Record}
use Rattle.swank_core.proofs.TableLemmas.{idle_is, lives}
use Rattle.swank_core.proofs.threads.Threads.are_idle.Goals as goal

pub loop-record-init : goal.loop-record-init
loop-record-init c =
    ap (λ (rs : List Record). are_idle (lives rs)) c.deref-record-items.ensures.value
    ∙ idle_is c.self.inside.next c.self.inside.records.items c.self.invariant
    ∙ ap are_idle c.self.view_is
