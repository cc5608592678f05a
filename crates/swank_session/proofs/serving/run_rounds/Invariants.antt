use Rattle.std.proofs.Common.{◌≡◌, ◌≤◌, ◌-◌, ℕ, Bool, List, length}
use Rattle.std.specs.Prelude.{Option}
use Rattle.rpc_messages.specs.declared.from_emacs.FromEmacs.{FromEmacs}
use Rattle.swank_session.specs.Course.{IsPaused, Later, Paid, between, whole}
use Rattle.swank_session.proofs.serving.run_rounds.Given as goal

abbrev pub invariant-loop-alloc : goal.invariant-loop-alloc
invariant-loop-alloc g l = record {
  paused : IsPaused l.core;
  limits : l.core.limits ≡ l.limits;
  onward : Later l.fn.core l.core;
  paid : (first : Option (List ℕ)) → Paid first (g.K.Sink.written l.fn.output) l.fn.core l.fn.sent → Paid first (g.K.Sink.written l.output) l.core l.sent;
  same : (messages : List FromEmacs) (ends : Bool) → whole l.core (between messages ends l.reached) ≡ whole l.fn.core (between messages ends 0);
  later : g.K.Sink.faults l.fn.output ≤ g.K.Sink.faults l.output;
}

abbrev pub decreases-loop-alloc : goal.decreases-loop-alloc
decreases-loop-alloc g l = l.core.limits.journal - length l.core.journal
