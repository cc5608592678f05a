use Rattle.std.proofs.Common.{◌≡◌, ◌∷◌, take}
use Rattle.lisp_builtins.proofs.lists.cons.Given as goal

abbrev pub invariant-loop-item : goal.invariant-loop-item
invariant-loop-item l = l.list ≡ l.fn.first ∷ take l.item-index l.items
