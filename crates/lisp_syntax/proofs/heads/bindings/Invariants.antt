use Rattle.std.proofs.Common.{◌≡◌, ◌++◌, drop, length}
use Rattle.lisp_syntax.specs.Rows.{binding_form, spread}
use Rattle.lisp_syntax.proofs.heads.bindings.Given as goal

abbrev pub invariant-loop-rest : goal.invariant-loop-rest
invariant-loop-rest l = record {
  items : spread binding_form l.fn.bindings l.fn.forms ≡ l.items ++ spread binding_form l.rest l.forms;
  rest : drop (length l.fn.bindings) l.fn.forms ≡ drop (length l.rest) l.forms;
}

abbrev pub decreases-loop-rest : goal.decreases-loop-rest
decreases-loop-rest l = length l.rest
