-- How a change at one place of the list of packages is read.
use Rattle.std.proofs.Common.{◌≡◌, ◌≢◌, slice_get, ℕ, zero, suc, ◌<◌, ◌≤◌, List, [], ◌∷◌, refl, ap, subst, ◌∙◌, length, set, get_or, arith}
use Rattle.lisp_packages.specs.declared.entry.Entry.{Entry}
use Rattle.lisp_packages.specs.declared.lisp_package.Package.{Package}
use Rattle.lisp_packages.specs.Packages.{own_at, uses_at, with_own, with_uses}

-- a write to the own list of the package at a place
pub set-with_own : (ps : List Package) (i : ℕ) (own : List Entry) (d : Package) → i < length ps → set ps i (record (get_or ps i d) { own = own }) ≡ with_own ps i own
set-with_own [] i own d h = absurd (omega arith)
set-with_own (p ∷ ps) zero own d h = refl
set-with_own (p ∷ ps) (suc i) own d h = ap (λ r. p ∷ r) (set-with_own ps i own d (omega arith))

pub set-with_uses : (ps : List Package) (i : ℕ) (uses : List ℕ) (d : Package) → i < length ps → set ps i (record (get_or ps i d) { uses = uses }) ≡ with_uses ps i uses
set-with_uses [] i uses d h = absurd (omega arith)
set-with_uses (p ∷ ps) zero uses d h = refl
set-with_uses (p ∷ ps) (suc i) uses d h = ap (λ r. p ∷ r) (set-with_uses ps i uses d (omega arith))

pub get_or-own : (ps : List Package) (i : ℕ) (d : Package) → i < length ps → (get_or ps i d).own ≡ own_at ps i
get_or-own [] i d h = absurd (omega arith)
get_or-own (p ∷ ps) zero d h = refl
get_or-own (p ∷ ps) (suc i) d h = get_or-own ps i d (omega arith)

pub get_or-uses : (ps : List Package) (i : ℕ) (d : Package) → i < length ps → (get_or ps i d).uses ≡ uses_at ps i
get_or-uses [] i d h = absurd (omega arith)
get_or-uses (p ∷ ps) zero d h = refl
get_or-uses (p ∷ ps) (suc i) d h = get_or-uses ps i d (omega arith)

-- past the end nothing changes
pub with_own-past : (ps : List Package) (i : ℕ) (own : List Entry) → length ps ≤ i → with_own ps i own ≡ ps
with_own-past [] i own h = refl
with_own-past (p ∷ ps) zero own h = absurd (omega arith)
with_own-past (p ∷ ps) (suc i) own h = ap (λ r. p ∷ r) (with_own-past ps i own (omega arith))

pub with_uses-past : (ps : List Package) (i : ℕ) (uses : List ℕ) → length ps ≤ i → with_uses ps i uses ≡ ps
with_uses-past [] i uses h = refl
with_uses-past (p ∷ ps) zero uses h = absurd (omega arith)
with_uses-past (p ∷ ps) (suc i) uses h = ap (λ r. p ∷ r) (with_uses-past ps i uses (omega arith))

-- a second change replaces the first
pub with_own-with_own : (ps : List Package) (i : ℕ) (first second : List Entry) → with_own (with_own ps i first) i second ≡ with_own ps i second
with_own-with_own [] i first second = refl
with_own-with_own (p ∷ ps) zero first second = refl
with_own-with_own (p ∷ ps) (suc i) first second = ap (λ r. p ∷ r) (with_own-with_own ps i first second)

-- with its own list a package stays as it is
pub with_own-own_at : (ps : List Package) (i : ℕ) → with_own ps i (own_at ps i) ≡ ps
with_own-own_at [] i = refl
with_own-own_at (p ∷ ps) zero = refl
with_own-own_at (p ∷ ps) (suc i) = ap (λ r. p ∷ r) (with_own-own_at ps i)

pub own_at-with_own : (ps : List Package) (i : ℕ) (own : List Entry) → i < length ps → own_at (with_own ps i own) i ≡ own
own_at-with_own [] i own h = absurd (omega arith)
own_at-with_own (p ∷ ps) zero own h = refl
own_at-with_own (p ∷ ps) (suc i) own h = own_at-with_own ps i own (omega arith)

-- a write through a reference to the package at a place
pub set-own : (ps self : List Package) (i : ℕ) (p : Package) (own : List Entry) (f : List Entry → List Entry) → ps ≡ self → i < length self → p ≡ get_or ps i p → own ≡ f p.own
    → set ps i (record p { own = own }) ≡ with_own self i (f (own_at self i))
set-own ps self i p own f e h v q = subst (λ (self : List Package). i < length self → set ps i (record p { own = own }) ≡ with_own self i (f (own_at self i))) e base h
  where
    base : i < length ps → set ps i (record p { own = own }) ≡ with_own ps i (f (own_at ps i))
    base h = ap (λ (r : Package). set ps i (record r { own = own })) v ∙ set-with_own ps i own p h ∙ ap (with_own ps i) (q ∙ ap f (ap (λ (r : Package). r.own) v ∙ get_or-own ps i p h))

pub set-uses : (ps self : List Package) (i : ℕ) (p : Package) (uses : List ℕ) (f : List ℕ → List ℕ) → ps ≡ self → i < length self → p ≡ get_or ps i p → uses ≡ f p.uses
    → set ps i (record p { uses = uses }) ≡ with_uses self i (f (uses_at self i))
set-uses ps self i p uses f e h v q = subst (λ (self : List Package). i < length self → set ps i (record p { uses = uses }) ≡ with_uses self i (f (uses_at self i))) e base h
  where
    base : i < length ps → set ps i (record p { uses = uses }) ≡ with_uses ps i (f (uses_at ps i))
    base h = ap (λ (r : Package). set ps i (record r { uses = uses })) v ∙ set-with_uses ps i uses p h ∙ ap (with_uses ps i) (q ∙ ap f (ap (λ (r : Package). r.uses) v ∙ get_or-uses ps i p h))

-- its own list
pub own_now : (ps self : List Package) (i : ℕ) (p : Package) → ps ≡ self → i < length self → p ≡ get_or ps i p → p.own ≡ own_at self i
own_now ps self i p e h v = subst (λ (self : List Package). i < length self → p.own ≡ own_at self i) e (λ h. ap (λ (r : Package). r.own) v ∙ get_or-own ps i p h) h

-- the other places
pub slice_get-with_uses-other : (ps : List Package) (i j : ℕ) (uses : List ℕ) → i ≢ j → slice_get (with_uses ps j uses) i ≡ slice_get ps i
slice_get-with_uses-other [] i j uses h = refl
slice_get-with_uses-other (x ∷ ps) zero zero uses h = absurd (h refl)
slice_get-with_uses-other (x ∷ ps) zero (suc j) uses h = refl
slice_get-with_uses-other (x ∷ ps) (suc i) zero uses h = refl
slice_get-with_uses-other (x ∷ ps) (suc i) (suc j) uses h = slice_get-with_uses-other ps i j uses (λ e. h (ap suc e))
