-- How packages are found by the hash of a name.
use Rattle.std.specs.Prelude.{◌≡◌, ℕ, List, Some, String}
use Rattle.indexmap.specs.IndexMap.{IndexMap, get_by_text}
use Rattle.lisp_packages.specs.declared.lisp_package.Package.{Package}
use Rattle.lisp_packages.specs.Packages.{place_of}

-- each name and nickname has its package's place in the map, which may have more: a look-up compares the name that it finds
abbrev pub HasNames : {A S : Type 0} → IndexMap (String A) ℕ S → List Package → Type 0
HasNames names ps = (text : List ℕ) (i : ℕ) → place_of ps text ≡ Some i → get_by_text names text ≡ Some i
