-- NTHCDR drops items.
use Rattle.std.proofs.Common.{◌≡◌, ℕ, zero, suc, List, [], ◌∷◌, drop, refl}
use Rattle.lisp_data.specs.declared.value.Value.{Value}
use Rattle.lisp_sequences.specs.Lists.{nthcdr}

nthcdr-nil : (n : ℕ) → nthcdr n [] ≡ []
nthcdr-nil zero = refl
nthcdr-nil (suc n) = nthcdr-nil n

pub nthcdr-drop : (n : ℕ) (xs : List Value) → nthcdr n xs ≡ drop n xs
nthcdr-drop zero xs = refl
nthcdr-drop (suc n) [] = nthcdr-nil n
nthcdr-drop (suc n) (x ∷ xs) = nthcdr-drop n xs
