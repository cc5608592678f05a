-- The list of the symbols that are present in one package.
use Rattle.std.specs.Prelude.{ℕ, Bool, true, List, [], ◌∷◌, ◌++◌, Option, is_some, find, if◌then◌else◌}
use Rattle.std.specs.Str.{bytes_eq}
use Rattle.lisp_packages.specs.declared.entry.Entry.{Entry}

-- whether the entry's symbol has this name
abbrev pub has_name : List ℕ → Entry → Bool
has_name name entry = bytes_eq name entry.symbol.name

-- the entry of a name among the symbols present in a package (HyperSpec 11.1.1.2.3)
abbrev pub entry_of : List Entry → List ℕ → Option Entry
entry_of own name = find (has_name name) own

-- the list with this entry in the place of the one of its name, or at the end where its name is new
abbrev pub put_entry : List Entry → Entry → List Entry
put_entry [] entry = entry ∷ []
put_entry (first ∷ rest) entry = if has_name entry.symbol.name first then entry ∷ rest else first ∷ put_entry rest entry

-- the list with this entry at the end, where its name is new
abbrev pub added : List Entry → Entry → List Entry
added own entry = if is_some (entry_of own entry.symbol.name) then own else own ++ entry ∷ []

-- the list with the symbol of this name external
abbrev pub with_external : List Entry → List ℕ → List Entry
with_external [] name = []
with_external (first ∷ rest) name = if has_name name first then (record first { external = true }) ∷ rest else first ∷ with_external rest name
