use Rattle.std.proofs.Common.{◌≡◌, ◌++◌, length}
use Rattle.lisp_builtins.specs.Numbers.{integers_in}
use Rattle.lisp_builtins.proofs.numbers.integers_in.Given as goal

abbrev pub invariant-loop-rest : goal.invariant-loop-rest
invariant-loop-rest l = l.numbers ++ integers_in l.rest ≡ integers_in l.fn.args

abbrev pub decreases-loop-rest : goal.decreases-loop-rest
decreases-loop-rest l = length l.rest
