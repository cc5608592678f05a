-- Finite maps from symbols: the list of the symbols with their values, in order of first entry, each symbol once.
use Rattle.std.specs.Prelude.{Bool, List, [], ◌∷◌, Option, find, option_map, if◌then◌else◌}
use Rattle.lisp_data.specs.declared.symbol.Symbol.{Symbol}
use Rattle.lisp_data.specs.Same.{same_symbol}

module _ {V : Type 0} where
  -- whether the entry is the symbol's
  abbrev pub is_for : Symbol → Symbol × V → Bool
  is_for s entry = same_symbol s entry.0

  -- the value of a symbol
  abbrev pub value_of : List (Symbol × V) → Symbol → Option V
  value_of entries s = option_map (λ entry. entry.1) (find (is_for s) entries)

  -- the map with this value of the symbol: in the place of the one before, or last where it had none
  abbrev pub with_value : List (Symbol × V) → Symbol → V → List (Symbol × V)
  with_value [] s value = (s, value) ∷ []
  with_value (first ∷ rest) s value = if is_for s first then (first.0, value) ∷ rest else first ∷ with_value rest s value
