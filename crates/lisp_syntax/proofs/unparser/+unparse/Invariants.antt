use Rattle.std.proofs.Common.{◌≡◌, ◌+◌, ◌*◌, map, take}
use Rattle.lisp_syntax.specs.Parsing.{unparsed}
use Rattle.lisp_syntax.proofs.unparser.+unparse.Given as goal

abbrev pub invariant-forms_of-loop-tree : goal.invariant-forms_of-loop-tree
invariant-forms_of-loop-tree l = l.forms ≡ map unparsed (take l.tree-index l.trees)

abbrev pub decreases-unparse : goal.decreases-unparse
decreases-unparse l = 2 * goal.size-unparse l

abbrev pub decreases-forms_of : goal.decreases-forms_of
decreases-forms_of l = 2 * goal.size-forms_of l + 1
