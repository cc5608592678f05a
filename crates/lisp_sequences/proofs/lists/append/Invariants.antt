use Rattle.std.proofs.Common.{◌≡◌, ◌++◌, drop, flat_map}
use Rattle.lisp_sequences.specs.Lists.{items_of}
use Rattle.lisp_sequences.proofs.lists.append.Given as goal

-- what is added, and what is still to come, is the whole
abbrev pub invariant-loop-list : goal.invariant-loop-list
invariant-loop-list l = l.out ++ flat_map items_of (drop l.list-index l.lists) ≡ flat_map items_of l.lists
