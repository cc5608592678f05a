use Rattle.std.proofs.Common.{◌≡◌, ◌++◌, drop, length}
use Rattle.lisp_syntax.specs.Rows.{handler_form, spread}
use Rattle.lisp_syntax.proofs.heads.handlers.Given as goal

abbrev pub invariant-loop-rest : goal.invariant-loop-rest
invariant-loop-rest l = record {
  items : spread handler_form l.fn.kinds l.fn.forms ≡ l.items ++ spread handler_form l.rest l.forms;
  rest : drop (length l.fn.kinds) l.fn.forms ≡ drop (length l.rest) l.forms;
}

abbrev pub decreases-loop-rest : goal.decreases-loop-rest
decreases-loop-rest l = length l.rest
