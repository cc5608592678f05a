-- The symbols that a form makes before the packages have them.
use Rattle.std.specs.Prelude.{ℕ, ◌-◌, Bool, ◌&&◌, List, [], ◌∷◌, fold, take, length, slice_get}
use Rattle.std.specs.Option.{option_map_or}
use Rattle.std.specs.Bool.{nat_eq}
use Rattle.std.specs.List.{list_any}
use Rattle.std.specs.Str.{bytes_eq}
use Rattle.lisp_packages.specs.declared.lisp_package.Package.{Package}
use Rattle.lisp_packages.specs.Packages.{own_at, with_own}
use Rattle.lisp_packages.specs.Naming.{with_new}

-- whether a symbol of this name was made in the package at a place
abbrev pub has_made : List (ℕ × List ℕ) → ℕ → List ℕ → Bool
has_made made i name = list_any (λ m. nat_eq i m.0 && bytes_eq name m.1) made

-- the packages with these symbols, made one after another
abbrev pub with_made : List Package → List (ℕ × List ℕ) → List Package
with_made ps made = fold (λ after m. with_new after m.0 m.1) ps made

-- the packages without the entry added last to the one at a place
abbrev pub shortened : List Package → ℕ → List Package
shortened ps i = with_own ps i (take (length (own_at ps i) - 1) (own_at ps i))

-- the packages without the entries added last at these places, the newest first
abbrev pub undone : List ℕ → List Package → List Package
undone [] ps = ps
undone (i ∷ more) ps = undone more (shortened ps i)

-- the packages with the n-th of these symbols made
abbrev pub with_made_at : List Package → List (ℕ × List ℕ) → ℕ → List Package
with_made_at ps made n = option_map_or (λ m. with_new ps m.0 m.1) (slice_get made n) ps
