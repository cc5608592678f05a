use Rattle.std.proofs.Common.{◌≡◌, ◌++◌, drop}
use Rattle.lisp_sequences.proofs.lists.extend.Given as goal

-- what is added, and what is still to come, is the whole
abbrev pub invariant-loop-item : goal.invariant-loop-item
invariant-loop-item l = l.out ++ drop l.item-index l.items ≡ l.fn.out ++ l.items
