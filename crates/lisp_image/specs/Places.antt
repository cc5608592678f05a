-- How symbols are found by the hashes of their homes and names.
use Rattle.std.specs.Prelude.{◌≡◌, ℕ, zero, suc, List, [], ◌∷◌, Option, None, Some, String, option_map, option_and_then, if◌then◌else◌}
use Rattle.indexmap.specs.IndexMap.{IndexMap, get_by_text}
use Rattle.lisp_data.specs.declared.symbol.Symbol.{Symbol}
use Rattle.lisp_image.specs.SymbolMap.{is_for}

-- the number of the symbol of a home and a name
abbrev pub number_of : {A B S T : Type 0} → IndexMap (String A) (IndexMap (String B) ℕ S) T → List ℕ → List ℕ → Option ℕ
number_of homes home name = option_and_then (λ names. get_by_text names name) (get_by_text homes home)

-- the place of a symbol's entry
abbrev pub place_of : {V : Type 0} → List (Symbol × V) → Symbol → Option ℕ
place_of [] s = None
place_of (first ∷ rest) s = if is_for s first then Some zero else option_map suc (place_of rest s)

-- each symbol's number is the place of its entry
abbrev pub IsIndexed : {A B S T V : Type 0} → IndexMap (String A) (IndexMap (String B) ℕ S) T → List (Symbol × V) → Type 0
IsIndexed homes entries = (s : Symbol) → number_of homes s.home s.name ≡ place_of entries s

-- the entries with this value at a place
abbrev pub with_value_at : {V : Type 0} → List (Symbol × V) → ℕ → V → List (Symbol × V)
with_value_at [] place value = []
with_value_at (first ∷ rest) zero value = (first.0, value) ∷ rest
with_value_at (first ∷ rest) (suc place) value = first ∷ with_value_at rest place value
