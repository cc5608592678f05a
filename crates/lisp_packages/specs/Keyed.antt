-- How a package's entries lie in a map from names.
use Rattle.std.specs.Prelude.{◌≡◌, List, [], ◌∷◌, String}
use Rattle.std.specs.String.{string_bytes}
use Rattle.lisp_packages.specs.declared.entry.Entry.{Entry}

-- each entry lies under its symbol's name
abbrev pub IsKeyed : {A : Type 0} → List (String A × Entry) → Type 0
IsKeyed [] = Unit {0}
IsKeyed (e ∷ es) = (string_bytes e.0 ≡ e.1.symbol.name) × IsKeyed es
