use Rattle.std.proofs.Common.{◌≡◌, ◌||◌, ℕ, List, true, None, Some, take}
use Rattle.std.specs.List.{list_any}
use Rattle.std.specs.Str.{bytes_eq}
use Rattle.indexmap.specs.IndexMap.{get_by_text}
use Rattle.lisp_packages.specs.Named.{HasNames}
use Rattle.lisp_packages.specs.Packages.{place_of}
use Rattle.lisp_packages.proofs.index.add_names.Given as goal

abbrev pub invariant-loop-nickname : goal.invariant-loop-nickname
invariant-loop-nickname l = record {
  names : HasNames l.names l.list;
  added : (t : List ℕ) → (bytes_eq t l.package.name || list_any (bytes_eq t) (take l.nickname-index l.nickname-items)) ≡ true → place_of l.list t ≡ None → get_by_text l.names t ≡ Some l.place;
}
