-- Making a package, or adding to one that is there (HyperSpec, `defpackage`). The uses are added first, then the exported names are
-- made present, not yet external; what would clash is decided on that, and last the names are made external.
use Rattle.std.specs.Prelude.{◌≡◌, ℕ, zero, suc, Bool, false, not, ◌||◌, ◌&&◌, List, [], ◌∷◌, ◌++◌, fold, take, drop, length, unwrap_or, Result, Ok, Err, if◌then◌else◌}
use Rattle.std.specs.Bool.{nat_eq}
use Rattle.std.specs.List.{list_any}
use Rattle.std.specs.Option.{option_map_or}
use Rattle.std.specs.Str.{bytes_eq}
use Rattle.lisp_data.specs.declared.symbol.Symbol.{Symbol}
use Rattle.lisp_data.specs.Symbols.{common_lisp}
use Rattle.lisp_packages.specs.declared.fault.NameFault.{NameFault}
use Rattle.lisp_packages.specs.declared.fault.NameFault.TheVariants as fault
use Rattle.lisp_packages.specs.declared.lisp_package.Package.{Package}
use Rattle.lisp_packages.specs.Changes.{Changed, entry_clashes}
use Rattle.lisp_packages.specs.Entries.{entry_of, added, with_external}
use Rattle.lisp_packages.specs.Naming.{in_named, new_entry}
use Rattle.lisp_packages.specs.Packages.{place_of, name_at, uses_at, own_at, accessible, clashes_for_users, with_own, with_uses}

-- a package of this name that has nothing yet
abbrev pub new_package : List ℕ → Package
new_package name = record { name = name; nicknames = []; uses = []; own = [] }

-- the packages with one of this name: as they are where there is one, else with a new one, made last
abbrev pub with_package : List Package → List ℕ → List Package
with_package ps name = option_map_or (λ i. ps) (place_of ps name) (ps ++ new_package name ∷ [])

-- the place of that package
abbrev pub place_in : List Package → List ℕ → ℕ
place_in ps name = unwrap_or (place_of ps name) (length ps)

-- the answer of looking for several packages: their places
abbrev pub Placed : Type 0
Placed = Result (List ℕ) NameFault

-- a place in front of others
abbrev pub place_before : ℕ → Placed → Placed
place_before u (Ok us) = Ok (u ∷ us)
place_before u (Err why) = Err why

-- the places of the packages that these texts name, or the first text that names none
abbrev pub places_named : List Package → List (List ℕ) → Placed
places_named ps [] = Ok []
places_named ps (text ∷ more) = in_named ps text (λ u. place_before u (places_named ps more))

-- the package at a place uses the one at u, behind those that it uses, where it doesn't yet
abbrev pub with_use : List Package → ℕ → ℕ → List Package
with_use ps i u = if list_any (nat_eq u) (uses_at ps i) then ps else with_uses ps i (uses_at ps i ++ u ∷ [])

-- the same with several, one after another
abbrev pub with_used : List Package → ℕ → List ℕ → List Package
with_used ps i us = fold (λ after u. with_use after i u) ps us

-- the symbol present in the package at a place: added, not external, where its name is new there
abbrev pub with_present : List Package → ℕ → Symbol → List Package
with_present ps i symbol = with_own ps i (added (own_at ps i) (record { symbol = symbol; external = false }))

-- the symbol that a name is to have there: the one that is accessible, else a new one, which COMMON-LISP doesn't get
abbrev pub symbol_to_export : List Package → ℕ → List ℕ → Result Symbol NameFault
symbol_to_export ps i name = option_map_or Ok (accessible ps i name)
    (if bytes_eq (name_at ps i) common_lisp then Err (fault.NotExternal name (name_at ps i)) else Ok (new_entry (name_at ps i) name).symbol)

-- that symbol present there
abbrev pub present_symbol : List Package → ℕ → Result Symbol NameFault → Changed
present_symbol ps i (Ok symbol) = Ok (with_present ps i symbol)
present_symbol ps i (Err why) = Err why

-- the symbol of a name present there
abbrev pub present_at : List Package → ℕ → List ℕ → Changed
present_at ps i name = present_symbol ps i (symbol_to_export ps i name)

-- a change, and another one on what it leaves
abbrev pub then_changed : Changed → (List Package → Changed) → Changed
then_changed (Ok ps) next = next ps
then_changed (Err why) next = Err why

-- the symbols of several names present there, one after another
abbrev pub all_present : ℕ → List (List ℕ) → List Package → Changed
all_present i [] ps = Ok ps
all_present i (name ∷ more) ps = then_changed (present_at ps i name) (all_present i more)

-- whether an external symbol of one of these packages clashes in the one at a place
abbrev pub uses_clash : List Package → ℕ → List ℕ → Bool
uses_clash ps i us = list_any (λ u. list_any (entry_clashes ps i) (own_at ps u)) us

-- whether the symbol of a name, present in the package at a place and not yet external, clashes in a package that uses it
abbrev pub export_clashes : List Package → ℕ → List ℕ → Bool
export_clashes ps i name = option_map_or (λ entry. not entry.external && clashes_for_users ps i entry.symbol) (entry_of (own_at ps i) name) false

-- the symbols of these names external in the package at a place
abbrev pub exported : ℕ → List (List ℕ) → List Package → List Package
exported i names ps = fold (λ after name. with_own after i (with_external (own_at after i) name)) ps names

-- these names exported, where neither they nor the uses behind the first ones clash
abbrev pub unless_clash : ℕ → ℕ → List (List ℕ) → List Package → Changed
unless_clash i first names ps = if uses_clash ps i (drop first (uses_at ps i)) || list_any (export_clashes ps i) names then Err fault.Clash else Ok (exported i names ps)

-- the package at a place with these uses and exports, those that it lacks
abbrev pub extended : List Package → ℕ → List ℕ → List (List ℕ) → Changed
extended ps i us names = then_changed (all_present i names (with_used ps i us)) (unless_clash i (length (uses_at ps i)) names)

-- an answer, and a change by the places that it gives
abbrev pub then_placed : Placed → (List ℕ → Changed) → Changed
then_placed (Ok us) next = next us
then_placed (Err why) next = Err why

-- the package of a name made, or kept, with these uses and exports
abbrev pub defined : List Package → List ℕ → List (List ℕ) → List (List ℕ) → Changed
defined ps name uses exports = then_placed (places_named ps uses) (λ us. extended (with_package ps name) (place_in ps name) us exports)

-- the packages with no more than m uses and n present symbols at a place
abbrev pub cut : List Package → ℕ → ℕ → ℕ → List Package
cut [] i m n = []
cut (p ∷ ps) zero m n = (record p { uses = take m p.uses; own = take n p.own }) ∷ ps
cut (p ∷ ps) (suc i) m n = p ∷ cut ps i m n

-- dropping what was added last to the package at a place brings back the packages as they were
abbrev pub IsUndone : ℕ → List Package → List Package → Type 0
IsUndone i old new = cut new i (length (uses_at old i)) (length (own_at old i)) ≡ old
