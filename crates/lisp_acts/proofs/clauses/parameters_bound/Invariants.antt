use Rattle.std.proofs.Common.{◌≡◌, ◌++◌, drop}
use Rattle.step_model.specs.Perform.{parameters_bound}
use Rattle.lisp_acts.proofs.clauses.parameters_bound.Given as goal

-- the bindings so far and those of what is left are the whole
abbrev pub invariant-parameters : goal.invariant-parameters
invariant-parameters l = l.markers ++ parameters_bound (drop l.parameter-index l.parameters) l.left ≡ parameters_bound l.parameters l.fn.args
