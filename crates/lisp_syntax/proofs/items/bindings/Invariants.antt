use Rattle.std.proofs.Common.{◌≡◌, length, map}
use Rattle.lisp_syntax.specs.Fits.{written}
use Rattle.lisp_syntax.specs.Table.{each_with, binding_of}
use Rattle.lisp_syntax.proofs.Loops.{both_behind}
use Rattle.lisp_syntax.proofs.items.bindings.Given as goal

abbrev pub invariant-loop-rest : goal.invariant-loop-rest
invariant-loop-rest l = each_with binding_of l.fn.items ≡ both_behind l.bindings (map written l.forms) (each_with binding_of l.rest)

abbrev pub decreases-loop-rest : goal.decreases-loop-rest
decreases-loop-rest l = length l.rest
