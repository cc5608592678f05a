-- How a set of places and names stands for the symbols made.
use Rattle.std.proofs.Common.{◌≡◌, ℕ, ◌||◌, ◌&&◌, Bool, false, List, [], ◌∷◌, ◌++◌, refl, ap, ◌∙◌, map, nat_eq, if◌then◌else◌}
use Rattle.std.specs.List.{list_any}
use Rattle.std.specs.String.{string_bytes, string_eq}
use Rattle.std.proofs.lemmas.List.{map-append}
use Rattle.indexmap.specs.IndexSet.{insert_key}
use Rattle.lisp_packages.specs.declared.made.Fresh.{Fresh}
use Rattle.lisp_packages.specs.Made.{has_made}

abbrev pub pair_of : Fresh → ℕ × List ℕ
pair_of key = (key.place, string_bytes key.name)

abbrev pub same_key : Fresh → Fresh → Bool
same_key a b = nat_eq a.place b.place && string_eq a.name b.name

pub list_any-same_key : (keys : List Fresh) (key : Fresh) → list_any (same_key key) keys ≡ has_made (map pair_of keys) key.place (string_bytes key.name)
list_any-same_key [] key = refl
list_any-same_key (x ∷ keys) key = ap (λ b. same_key key x || b) (list_any-same_key keys key)

pub insert_key-new : (keys : List Fresh) (key : Fresh) → has_made (map pair_of keys) key.place (string_bytes key.name) ≡ false
    → map pair_of (insert_key same_key keys key) ≡ map pair_of keys ++ pair_of key ∷ []
insert_key-new keys key h = ap (λ b. map pair_of (if b then keys else keys ++ key ∷ [])) (list_any-same_key keys key ∙ h) ∙ map-append pair_of keys (key ∷ [])
