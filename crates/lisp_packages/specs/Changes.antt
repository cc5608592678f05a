-- What the calls that change packages do.
use Rattle.std.specs.Prelude.{◌≡◌, ◌≢◌, Option, Some, slice_get, ℕ, Bool, ◌||◌, ◌&&◌, true, List, [], ◌∷◌, ◌++◌, Result, Ok, Err, if◌then◌else◌}
use Rattle.std.specs.Bool.{nat_eq}
use Rattle.std.specs.List.{list_any}
use Rattle.std.specs.Option.{option_map_or}
use Rattle.std.specs.Str.{bytes_eq}
use Rattle.lisp_data.specs.declared.symbol.Symbol.{Symbol}
use Rattle.lisp_data.specs.Symbols.{keyword_package}
use Rattle.lisp_packages.specs.declared.entry.Entry.{Entry}
use Rattle.lisp_packages.specs.declared.fault.NameFault.{NameFault}
use Rattle.lisp_packages.specs.declared.fault.NameFault.TheVariants as fault
use Rattle.lisp_packages.specs.declared.lisp_package.Package.{Package}
use Rattle.lisp_packages.specs.Entries.{put_entry}
use Rattle.lisp_packages.specs.Naming.{Named, made_symbol, new_entry}
use Rattle.lisp_packages.specs.Packages.{name_at, uses_at, own_at, accessible, clashes, clashes_for_users, with_own, with_uses}

-- the answer of a change: the packages afterwards
abbrev pub Changed : Type 0
Changed = Result (List Package) NameFault

-- the symbol of a name in the package at a place, else a new one; a new keyword may not clash for those that use KEYWORD
abbrev pub intern_at : List Package → ℕ → List ℕ → Named
intern_at ps i name = option_map_or (λ symbol. Ok (ps, symbol)) (accessible ps i name)
    (if bytes_eq (name_at ps i) keyword_package && clashes_for_users ps i (new_entry (name_at ps i) name).symbol then Err fault.Clash else made_symbol ps i name)

-- the symbol made external in the package at a place, and present there (HyperSpec, `export` and `import`)
abbrev pub export_at : List Package → ℕ → Symbol → Changed
export_at ps i symbol = if clashes ps i symbol || clashes_for_users ps i symbol then Err fault.Clash
    else Ok (with_own ps i (put_entry (own_at ps i) (record { symbol = symbol; external = true })))

-- whether the entry's symbol is external and clashes in the package at a place
abbrev pub entry_clashes : List Package → ℕ → Entry → Bool
entry_clashes ps i entry = entry.external && clashes ps i entry.symbol

-- the package at u used by the one at i, behind those that it uses (HyperSpec, `use-package`)
abbrev pub use_at : List Package → ℕ → ℕ → Changed
use_at ps i u = if list_any (nat_eq u) (uses_at ps i) then Ok ps
    else if list_any (entry_clashes ps i) (own_at ps u) then Err fault.Clash
    else Ok (with_uses ps i (uses_at ps i ++ u ∷ []))

-- the packages at all places but this one are as they were
abbrev pub KeepsOthers : Option ℕ → List Package → List Package → Type 0
KeepsOthers place old new = (k : ℕ) → place ≢ Some k → slice_get new k ≡ slice_get old k
