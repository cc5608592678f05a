-- How what was added last to a package is dropped again.
use Rattle.std.proofs.Common.{◌≡◌, ℕ, zero, suc, ◌≤◌, ◌<◌, ◌-◌, Bool, true, false, List, [], ◌∷◌, ◌++◌, refl, sym, ap, ◌∙◌, subst, length, take, set, get_or, is_some, if◌then◌else◌, arith}
use Rattle.std.proofs.Math.Seq.{take-length, take-append_seam}
use Rattle.std.proofs.lemmas.List.{take-take, length-take, length-append}
use Rattle.lisp_packages.specs.declared.entry.Entry.{Entry}
use Rattle.lisp_packages.specs.declared.lisp_package.Package.{Package}
use Rattle.lisp_packages.specs.Entries.{entry_of, added}
use Rattle.lisp_packages.specs.Making.{cut, IsUndone}
use Rattle.lisp_packages.specs.Packages.{uses_at, own_at, with_own, with_uses}

pub IsUndone-refl : (i : ℕ) (ps : List Package) → IsUndone i ps ps
IsUndone-refl i [] = refl
IsUndone-refl zero (p ∷ ps) = λ j. (record p { uses = take-length p.uses j; own = take-length p.own j }) ∷ ps
IsUndone-refl (suc i) (p ∷ ps) = ap (λ r. p ∷ r) (IsUndone-refl i ps)

-- one more use
pub IsUndone-with_uses : (i : ℕ) (ps : List Package) (more : List ℕ) → IsUndone i ps (with_uses ps i (uses_at ps i ++ more))
IsUndone-with_uses i [] more = refl
IsUndone-with_uses zero (p ∷ ps) more = λ j. (record p { uses = take-append_seam p.uses more j; own = take-length p.own j }) ∷ ps
IsUndone-with_uses (suc i) (p ∷ ps) more = ap (λ r. p ∷ r) (IsUndone-with_uses i ps more)

take-added : (own : List Entry) (entry : Entry) → take (length own) (added own entry) ≡ own
take-added own entry = by (is_some (entry_of own entry.symbol.name))
  where
    by : (b : Bool) → take (length own) (if b then own else own ++ entry ∷ []) ≡ own
    by true = take-length own
    by false = take-append_seam own (entry ∷ [])

-- one more symbol
pub IsUndone-with_own : (i : ℕ) (ps : List Package) (entry : Entry) → IsUndone i ps (with_own ps i (added (own_at ps i) entry))
IsUndone-with_own i [] entry = refl
IsUndone-with_own zero (p ∷ ps) entry = λ j. (record p { uses = take-length p.uses j; own = take-added p.own entry j }) ∷ ps
IsUndone-with_own (suc i) (p ∷ ps) entry = ap (λ r. p ∷ r) (IsUndone-with_own i ps entry)

take-none : {X : Type 0} (n : ℕ) → [] ≡ take n (let none : List X = [] in none)
take-none zero = refl
take-none (suc n) = refl

uses_at-cut : (ps : List Package) (i m n : ℕ) → uses_at (cut ps i m n) i ≡ take m (uses_at ps i)
uses_at-cut [] i m n = take-none {X = ℕ} m
uses_at-cut (p ∷ ps) zero m n = refl
uses_at-cut (p ∷ ps) (suc i) m n = uses_at-cut ps i m n

own_at-cut : (ps : List Package) (i m n : ℕ) → own_at (cut ps i m n) i ≡ take n (own_at ps i)
own_at-cut [] i m n = take-none {X = Entry} n
own_at-cut (p ∷ ps) zero m n = refl
own_at-cut (p ∷ ps) (suc i) m n = own_at-cut ps i m n

length-cut : (ps : List Package) (i m n : ℕ) → length (cut ps i m n) ≡ length ps
length-cut [] i m n = refl
length-cut (p ∷ ps) zero m n = let a : List Package = (record p { uses = take m p.uses; own = take n p.own }) ∷ ps in omega arith
length-cut (p ∷ ps) (suc i) m n = let rest = length-cut ps i m n in omega (arith, rest)

cut-cut : (ps : List Package) (i m n a b : ℕ) → a ≤ m → b ≤ n → cut (cut ps i m n) i a b ≡ cut ps i a b
cut-cut [] i m n a b h k = refl
cut-cut (p ∷ ps) zero m n a b h k = λ j. (record p { uses = take-take a m p.uses h j; own = take-take b n p.own k j }) ∷ ps
cut-cut (p ∷ ps) (suc i) m n a b h k = ap (λ r. p ∷ r) (cut-cut ps i m n a b h k)

-- the packages are as many as they were
pub length-undone : (i : ℕ) (old new : List Package) → IsUndone i old new → length new ≡ length old
length-undone i old new h = sym (length-cut new i (length (uses_at old i)) (length (own_at old i))) ∙ ap length h

-- one change and another
pub IsUndone-trans : (i : ℕ) (old between new : List Package) → IsUndone i old between → IsUndone i between new → IsUndone i old new
IsUndone-trans i old between new g h =
    let uses : length (uses_at old i) ≤ length (uses_at between i) =
    omega (arith, length-take (length (uses_at old i)) (uses_at between i), ap length (uses_at-cut between i (length (uses_at old i)) (length (own_at old i))), ap (λ ps. length (uses_at ps i)) g) in
    let own : length (own_at old i) ≤ length (own_at between i) =
    omega (arith, length-take (length (own_at old i)) (own_at between i), ap length (own_at-cut between i (length (uses_at old i)) (length (own_at old i))), ap (λ ps. length (own_at ps i)) g) in
    sym (cut-cut new i (length (uses_at between i)) (length (own_at between i)) (length (uses_at old i)) (length (own_at old i)) uses own)
    ∙ ap (λ ps. cut ps i (length (uses_at old i)) (length (own_at old i))) h ∙ g

-- a write through a reference to the package at a place
set-cut-now : (ps : List Package) (i m n : ℕ) (p : Package) → i < length ps → p ≡ get_or ps i p → set ps i (record p { uses = take m p.uses; own = take n p.own }) ≡ cut ps i m n
set-cut-now [] i m n p h v = absurd (omega arith)
set-cut-now (q ∷ ps) zero m n p h v = λ j. (record (v j) { uses = take m (v j).uses; own = take n (v j).own }) ∷ ps
set-cut-now (q ∷ ps) (suc i) m n p h v = ap (λ r. q ∷ r) (set-cut-now ps i m n p (omega arith) v)

pub set-cut : (ps self : List Package) (i m n : ℕ) (p : Package) → ps ≡ self → i < length self → p ≡ get_or ps i p → set ps i (record p { uses = take m p.uses; own = take n p.own }) ≡ cut self i m n
set-cut ps self i m n p e h v = subst (λ (self : List Package). i < length self → set ps i (record p { uses = take m p.uses; own = take n p.own }) ≡ cut self i m n) e (λ h. set-cut-now ps i m n p h v) h

pub cut-past : (ps : List Package) (i m n : ℕ) → length ps ≤ i → ps ≡ cut ps i m n
cut-past [] i m n h = refl
cut-past (p ∷ ps) zero m n h = absurd (omega arith)
cut-past (p ∷ ps) (suc i) m n h = ap (λ r. p ∷ r) (cut-past ps i m n (omega arith))

-- the package made last is dropped
pub take-push : (ps : List Package) (p : Package) → take (length (ps ++ p ∷ []) - 1) (ps ++ p ∷ []) ≡ ps
take-push ps p = let less : length (ps ++ p ∷ []) - 1 ≡ length ps = omega (arith, length-append ps (p ∷ [])) in ap (λ n. take n (ps ++ p ∷ [])) less ∙ take-append_seam ps (p ∷ [])
