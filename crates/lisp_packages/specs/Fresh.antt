-- The packages of a fresh image.
use Rattle.std.specs.Prelude.{◌≡◌, refl, ℕ, true, List, [], ◌∷◌, map, fold, codes}
use Rattle.lisp_data.specs.Symbols.{common_lisp, keyword_package}
use Rattle.lisp_packages.specs.declared.names.TheConstants as constant
use Rattle.lisp_packages.specs.declared.entry.Entry.{Entry}
use Rattle.lisp_packages.specs.declared.lisp_package.Package.{Package}
use Rattle.lisp_packages.specs.Entries.{put_entry}

-- the external symbol of this name of COMMON-LISP
abbrev pub standard_entry : List ℕ → Entry
standard_entry name = record { symbol = record { home = common_lisp; name = name }; external = true }

-- the symbols of these names, one after another, each name once
abbrev pub standard_own : List (List ℕ) → List Entry
standard_own names = fold (λ own name. put_entry own (standard_entry name)) [] names

-- COMMON-LISP with the symbols of these names, all external; COMMON-LISP-USER, which uses it; and KEYWORD (HyperSpec 11.1.2)
abbrev pub fresh_packages : List (List ℕ) → List Package
fresh_packages names =
    (record { name = common_lisp; nicknames = codes "CL" ∷ []; uses = []; own = standard_own names })
    ∷ (record { name = codes "COMMON-LISP-USER"; nicknames = codes "CL-USER" ∷ []; uses = 0 ∷ []; own = [] })
    ∷ (record { name = keyword_package; nicknames = []; uses = []; own = [] })
    ∷ []

-- the packages of a fresh image
unfoldable pub standard_packages : List Package
standard_packages = fresh_packages (map (λ name. name.now) constant.STANDARD_NAMES)

pub standard_packages-is : standard_packages ≡ fresh_packages (map (λ name. name.now) constant.STANDARD_NAMES)
unfolding standard_packages
standard_packages-is = refl

-- the names of COMMON-LISP
abbrev pub standard_names : List (List ℕ)
standard_names = map (λ name. name.now) constant.STANDARD_NAMES
