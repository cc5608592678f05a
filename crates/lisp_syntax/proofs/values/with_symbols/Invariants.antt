use Rattle.std.proofs.Common.{◌≡◌, ◌++◌, map, take}
use Rattle.lisp_data.specs.Symbols.{value_of_symbol}
use Rattle.lisp_syntax.proofs.values.with_symbols.Given as goal

abbrev pub invariant-loop-name : goal.invariant-loop-name
invariant-loop-name l = l.items ≡ l.fn.items ++ map value_of_symbol (take l.name-index l.names)
