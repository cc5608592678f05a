use Rattle.std.proofs.Common.{sym, ◌∙◌}
use Rattle.swank_core.proofs.ThreadLemmas.{step_otherwise, step_waiting}
use Rattle.swank_core.proofs.record.Record.can_step.Goals as goal

pub returns-in-Wait : goal.returns-in-Wait
returns-in-Wait c = c.accepts.ensures ∙ step_waiting c.args.self.now _ (sym c.focus.ensures ∙ c.in-Wait.is)

pub returns-in_default : goal.returns-in_default
returns-in_default c = step_otherwise c.args.self.now (λ p e. c.in_default.not-Wait p (c.focus.ensures ∙ e))
