use Rattle.std.proofs.Common.{◌≡◌, ◌++◌, drop, take}
use Rattle.lisp_syntax.proofs.heads.with_forms.Given as goal

abbrev pub invariant-loop-left : goal.invariant-loop-left
invariant-loop-left l = record {
  items : l.fn.items ++ take l.fn.count l.fn.forms ≡ l.items ++ take l.left l.forms;
  rest : drop l.fn.count l.fn.forms ≡ drop l.left l.forms;
}

abbrev pub decreases-loop-left : goal.decreases-loop-left
decreases-loop-left l = l.left
