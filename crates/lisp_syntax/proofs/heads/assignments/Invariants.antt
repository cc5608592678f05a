use Rattle.std.proofs.Common.{◌≡◌, ◌∷◌, ◌++◌, drop, length}
use Rattle.lisp_syntax.specs.Rows.{assignment_forms, operator_symbol}
use Rattle.lisp_syntax.specs.declared.operator.Operator.TheVariants as op
use Rattle.lisp_syntax.proofs.heads.assignments.Given as goal

abbrev pub invariant-loop-rest : goal.invariant-loop-rest
invariant-loop-rest l = record {
  items : operator_symbol op.Setq ∷ assignment_forms l.fn.names l.fn.forms ≡ l.items ++ assignment_forms l.rest l.forms;
  rest : drop (length l.fn.names) l.fn.forms ≡ drop (length l.rest) l.forms;
}

abbrev pub decreases-loop-rest : goal.decreases-loop-rest
decreases-loop-rest l = length l.rest
