use Rattle.std.proofs.Common.{◌≡◌, map, take}
use Rattle.lisp_data.specs.declared.value.Value as value
use Rattle.lisp_syntax.proofs.values.variables.Given as goal

abbrev pub invariant-loop-name : goal.invariant-loop-name
invariant-loop-name l = l.items ≡ map value.Sym (take l.name-index l.names)
