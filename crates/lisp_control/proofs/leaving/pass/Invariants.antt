use Rattle.std.proofs.Common.{◌≡◌}
use Rattle.lisp_frames.specs.Stack.{with_context}
use Rattle.lisp_control.specs.Leaving.{behind, passing}
use Rattle.lisp_control.proofs.leaving.pass.Given as goal

-- the whole way is what was passed and then the way from here
abbrev pub invariant-layers : goal.invariant-layers
invariant-layers l = (passing l.fn.count l.fn.stack.context ≡ behind l.passed (passing l.to_go l.stack.context)) × (l.stack ≡ with_context l.stack.context l.fn.stack)

abbrev pub decreases-layers : goal.decreases-layers
decreases-layers l = l.to_go
