use Rattle.std.proofs.Common.{◌≡◌, ◌∷◌, map, take}
use Rattle.lisp_data.specs.Symbols.{keyword}
use Rattle.lisp_data.specs.declared.value.Value as value
use Rattle.lisp_syntax.specs.Parts.{designator_form}
use Rattle.lisp_syntax.proofs.values.option_list.Given as goal

abbrev pub invariant-loop-name : goal.invariant-loop-name
invariant-loop-name l = l.items ≡ value.Sym (keyword l.key) ∷ map designator_form (take l.name-index l.names)
