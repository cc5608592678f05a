-- One more step of a loop that looks for an element that passes a test.
use Rattle.std.proofs.Common.{◌≡◌, ℕ, zero, suc, ◌+◌, ◌<◌, Bool, true, false, ◌||◌, List, [], ◌∷◌, refl, sym, ap, ◌∙◌, length, drop, slice_get, arith}
use Rattle.std.specs.List.{list_any}
use Rattle.std.specs.Option.{option_map_or}
use Rattle.lisp_packages.specs.declared.lisp_package.Package.{Package}
use Rattle.lisp_packages.specs.Packages.{places_from}

-- the test at an index, and behind it
list_any-drop : {X : Type 0} (f : X → Bool) (xs : List X) (n : ℕ) → list_any f (drop n xs) ≡ (option_map_or f (slice_get xs n) false || list_any f (drop (suc n) xs))
list_any-drop f [] zero = refl
list_any-drop f [] (suc n) = refl
list_any-drop f (x ∷ xs) zero = refl
list_any-drop f (x ∷ xs) (suc n) = list_any-drop f xs n

pub any-found : {X : Type 0} (f : X → Bool) (xs : List X) (n : ℕ) (whole : Bool) → list_any f (drop n xs) ≡ whole → option_map_or f (slice_get xs n) false ≡ true → true ≡ whole
any-found f xs n whole h t = sym (ap (λ b. b || list_any f (drop (suc n) xs)) t) ∙ sym (list_any-drop f xs n) ∙ h

pub any-next : {X : Type 0} (f : X → Bool) (xs : List X) (n : ℕ) (whole : Bool) → list_any f (drop n xs) ≡ whole → option_map_or f (slice_get xs n) false ≡ false → list_any f (drop (n + 1) xs) ≡ whole
any-next f xs n whole h t =
    let next : n + 1 ≡ suc n = omega arith in
    ap (λ i. list_any f (drop i xs)) next ∙ sym (ap (λ b. b || list_any f (drop (suc n) xs)) t) ∙ sym (list_any-drop f xs n) ∙ h

-- the places from this one on
places-drop : (ps : List Package) (n m : ℕ) → n < length ps → places_from m (drop n ps) ≡ m ∷ places_from (m + 1) (drop (suc n) ps)
places-drop [] n m h = absurd (omega arith)
places-drop (p ∷ ps) zero m h = refl
places-drop (p ∷ ps) (suc n) m h = places-drop ps n m (omega arith)

pub place-found : (f : ℕ → Bool) (ps : List Package) (n : ℕ) (whole : Bool) → n < length ps → list_any f (places_from n (drop n ps)) ≡ whole → f n ≡ true → true ≡ whole
place-found f ps n whole within h t = sym (ap (λ b. b || list_any f (places_from (n + 1) (drop (suc n) ps))) t) ∙ sym (ap (list_any f) (places-drop ps n n within)) ∙ h

pub place-next : (f : ℕ → Bool) (ps : List Package) (n : ℕ) (whole : Bool) → n < length ps → list_any f (places_from n (drop n ps)) ≡ whole → f n ≡ false → list_any f (places_from (n + 1) (drop (n + 1) ps)) ≡ whole
place-next f ps n whole within h t =
    let next : n + 1 ≡ suc n = omega arith in
    ap (λ i. list_any f (places_from (n + 1) (drop i ps))) next ∙ sym (ap (λ b. b || list_any f (places_from (n + 1) (drop (suc n) ps))) t) ∙ sym (ap (list_any f) (places-drop ps n n within)) ∙ h
