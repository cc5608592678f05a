use Rattle.std.proofs.Common.{◌≡◌, ◌++◌, length}
use Rattle.lisp_syntax.proofs.unparser.with_body.Given as goal

abbrev pub invariant-loop-form : goal.invariant-loop-form
invariant-loop-form l = l.fn.items ++ l.fn.forms ≡ l.items ++ l.forms

abbrev pub decreases-loop-form : goal.decreases-loop-form
decreases-loop-form l = length l.forms
