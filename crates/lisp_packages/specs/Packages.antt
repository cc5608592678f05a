-- Packages and the symbols that are accessible in them. A package is its full name, its nicknames, the places of the packages that
-- it uses, in order of use, and the entries of the symbols that are present in it, in order of interning. Packages stand in a list,
-- in order of making, and a package's place is its index there.
use Rattle.std.specs.Prelude.{ℕ, zero, suc, ◌+◌, Bool, false, ◌||◌, ◌&&◌, not, List, [], ◌∷◌, Option, None, Some, option_map, unwrap_or, slice_get, if◌then◌else◌}
use Rattle.std.specs.List.{list_any, position_from}
use Rattle.std.specs.Option.{option_map_or, option_or}
use Rattle.std.specs.Bool.{nat_eq}
use Rattle.std.specs.Str.{bytes_eq}
use Rattle.lisp_data.specs.Same.{same_symbol}
use Rattle.lisp_data.specs.declared.symbol.Symbol.{Symbol}
use Rattle.lisp_packages.specs.declared.entry.Entry.{Entry}
use Rattle.lisp_packages.specs.declared.lisp_package.Package.{Package}
use Rattle.lisp_packages.specs.Entries.{entry_of}

-- the text is the package's full name or one of its nicknames (HyperSpec 11.1.1.1)
abbrev pub is_named : List ℕ → Package → Bool
is_named text p = bytes_eq text p.name || list_any (bytes_eq text) p.nicknames

-- the place of the package that a text names
abbrev pub place_of : List Package → List ℕ → Option ℕ
place_of ps text = position_from (is_named text) 0 ps

-- the full name of the package at a place
abbrev pub name_at : List Package → ℕ → List ℕ
name_at ps i = option_map_or (λ p. p.name) (slice_get ps i) []

-- the places of the packages that it uses
abbrev pub uses_at : List Package → ℕ → List ℕ
uses_at ps i = option_map_or (λ p. p.uses) (slice_get ps i) []

-- the symbols that are present in it
abbrev pub own_at : List Package → ℕ → List Entry
own_at ps i = option_map_or (λ p. p.own) (slice_get ps i) []

-- the symbol of an entry, where it is external
abbrev pub only_external : Option Entry → Option Symbol
only_external None = None
only_external (Some entry) = if entry.external then Some entry.symbol else None

-- the external symbol of a name in the package at a place
abbrev pub external_at : List Package → ℕ → List ℕ → Option Symbol
external_at ps i name = only_external (entry_of (own_at ps i) name)

-- the external symbol of a name in the first of these packages that has one
abbrev pub inherited : List Package → List ℕ → List ℕ → Option Symbol
inherited ps [] name = None
inherited ps (used ∷ more) name = option_or (external_at ps used name) (inherited ps more name)

-- the symbol of a name that is accessible in the package at a place: its own, else one that it inherits (HyperSpec 11.1.1.2.3)
abbrev pub accessible : List Package → ℕ → List ℕ → Option Symbol
accessible ps i name = option_or (option_map (λ entry. entry.symbol) (entry_of (own_at ps i) name)) (inherited ps (uses_at ps i) name)

-- whether the package at a place has an accessible symbol of this one's name that is another one (HyperSpec 11.1.1.2.5)
abbrev pub clashes : List Package → ℕ → Symbol → Bool
clashes ps i symbol = option_map_or (λ there. not (same_symbol there symbol)) (accessible ps i symbol.name) false

-- the places of packages, from this one on
abbrev pub places_from : ℕ → List Package → List ℕ
places_from n [] = []
places_from n (p ∷ ps) = n ∷ places_from (n + 1) ps

-- whether the package at the second place uses the one at the first, and the symbol clashes there
abbrev pub clashes_for_user : List Package → ℕ → Symbol → ℕ → Bool
clashes_for_user ps i symbol user = list_any (nat_eq i) (uses_at ps user) && clashes ps user symbol

-- whether the symbol clashes in one of the packages that use the one at this place
abbrev pub clashes_for_users : List Package → ℕ → Symbol → Bool
clashes_for_users ps i symbol = list_any (clashes_for_user ps i symbol) (places_from 0 ps)

-- the packages with another list of present symbols at a place
abbrev pub with_own : List Package → ℕ → List Entry → List Package
with_own [] i own = []
with_own (p ∷ ps) zero own = (record p { own = own }) ∷ ps
with_own (p ∷ ps) (suc i) own = p ∷ with_own ps i own

-- the packages with other used packages at a place
abbrev pub with_uses : List Package → ℕ → List ℕ → List Package
with_uses [] i uses = []
with_uses (p ∷ ps) zero uses = (record p { uses = uses }) ∷ ps
with_uses (p ∷ ps) (suc i) uses = p ∷ with_uses ps i uses

-- what a prompt shows for a package: its first nickname, else its name
abbrev pub prompt_of : Package → List ℕ
prompt_of p = unwrap_or (slice_get p.nicknames 0) p.name
