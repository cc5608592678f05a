-- What is known of the parts where a whole is there.
use Rattle.std.proofs.Common.{◌≡◌, Bool, true, false, List, [], ◌∷◌, map, refl, sym, ap, subst, ◌∙◌}
use Rattle.std.specs.Prelude.{Option, Some, None, option_map, option_and_then, if◌then◌else◌}
use Rattle.std.specs.List.{find}
use Rattle.lisp_syntax.specs.Parts.{Each, both, each_of}

-- what was mapped
pub record Mapped {A B : Type 0} (f : A → B) (o : Option A) (y : B) : Type 0 where
  pub x : A
  pub was : o ≡ Some x
  pub is : f x ≡ y

pub mapped : {A B : Type 0} (f : A → B) (o : Option A) (y : B) → option_map f o ≡ Some y → Mapped f o y
mapped f None y e = absurd (cc)
mapped f (Some x) y e = record { x = x; was = refl; is = cc }

-- what went on
pub record Chained {A B : Type 0} (f : A → Option B) (o : Option A) (y : B) : Type 0 where
  pub x : A
  pub was : o ≡ Some x
  pub is : f x ≡ Some y

pub chained : {A B : Type 0} (f : A → Option B) (o : Option A) (y : B) → option_and_then f o ≡ Some y → Chained f o y
chained f None y e = absurd (cc)
chained f (Some x) y e = record { x = x; was = refl; is = e }

-- what was joined
pub record Joined {A B C : Type 0} (f : A → B → C) (o : Option A) (p : Option B) (z : C) : Type 0 where
  pub x : A
  pub y : B
  pub first : o ≡ Some x
  pub second : p ≡ Some y
  pub is : f x y ≡ z

pub joined : {A B C : Type 0} (f : A → B → C) (o : Option A) (p : Option B) (z : C) → both f o p ≡ Some z → Joined f o p z
joined f None p z e = absurd (cc)
joined f (Some x) None z e = absurd (cc)
joined f (Some x) (Some y) z e = record { x = x; y = y; first = refl; second = refl; is = cc }

-- what was chosen, and that the test held
pub record Chosen {A : Type 0} (b : Bool) (o : Option A) (y : A) : Type 0 where
  pub test : b ≡ true
  pub is : o ≡ Some y

pub chosen : {A : Type 0} (b : Bool) (o : Option A) (y : A) → (if b then o else None) ≡ Some y → Chosen b o y
chosen true o y e = record { test = refl; is = e }
chosen false o y e = absurd (cc)

-- the same where the test must fail
pub record Passed {A : Type 0} (b : Bool) (o : Option A) (y : A) : Type 0 where
  pub test : b ≡ false
  pub is : o ≡ Some y

pub passed : {A : Type 0} (b : Bool) (o : Option A) (y : A) → (if b then None else o) ≡ Some y → Passed b o y
passed true o y e = absurd (cc)
passed false o y e = record { test = refl; is = e }

pub some-same : {A : Type 0} (x y : A) → Some x ≡ Some y → x ≡ y
some-same x y e = cc

-- what is found passes the test
found-at : {A : Type 0} (p : A → Bool) (x y : A) (b : Bool) (o : Option A) → p x ≡ b → (o ≡ Some y → p y ≡ true) → (if b then Some x else o) ≡ Some y → p y ≡ true
found-at p x y true o is more e = ap p (sym (some-same x y e)) ∙ is
found-at p x y false o is more e = more e

pub found : {A : Type 0} (p : A → Bool) (xs : List A) (y : A) → find p xs ≡ Some y → p y ≡ true
found p [] y e = absurd (cc)
found p (x ∷ xs) y e = found-at p x y (p x) (find p xs) refl (found p xs y) e

-- what is read of each item gives the items back
pub each-back : {A B : Type 0} (read : A → Option B) (form : B → A) → ((x : A) (y : B) → read x ≡ Some y → form y ≡ x) → (xs : List A) (ys : List B) → each_of read xs ≡ Some ys → map form ys ≡ xs
each-back read form back [] ys e = ap (map form) (sym (some-same [] ys e))
each-back read form back (x ∷ xs) ys e =
    let j = joined ◌∷◌ (read x) (each_of read xs) ys e in
    ap (map form) (sym j.is) ∙ (ap (λ z. z ∷ map form j.y) (back x j.x j.first) ∙ ap (λ zs. x ∷ zs) (each-back read form back xs j.y j.second))

-- ---- parts that are read exactly where they fit

-- what is read gives the value back and fits, and what fits is read
pub record Exact {V A : Type 0} (read : V → Option A) (form : A → V) (Fits : A → Type 0) : Type 0 where
  pub back : (v : V) (a : A) → read v ≡ Some a → form a ≡ v
  pub fits : (v : V) (a : A) → read v ≡ Some a → Fits a
  pub whole : (a : A) → Fits a → read (form a) ≡ Some a

-- items that are read one by one
each-fits : {V A : Type 0} (read : V → Option A) (Fits : A → Type 0) → ((v : V) (a : A) → read v ≡ Some a → Fits a) → (xs : List V) (ys : List A) → each_of read xs ≡ Some ys → Each Fits ys
each-fits read Fits fits [] [] e = tt
each-fits read Fits fits [] (y ∷ ys) e = absurd (cc)
each-fits read Fits fits (x ∷ xs) ys e =
    let j = joined ◌∷◌ (read x) (each_of read xs) ys e in
    subst (Each Fits) j.is (fits x j.x j.first, each-fits read Fits fits xs j.y j.second)

each-whole : {V A : Type 0} (read : V → Option A) (form : A → V) (Fits : A → Type 0) → ((a : A) → Fits a → read (form a) ≡ Some a) → (ys : List A) → Each Fits ys → each_of read (map form ys) ≡ Some ys
each-whole read form Fits whole [] f = refl
each-whole read form Fits whole (y ∷ ys) f =
    ap (λ o. both ◌∷◌ o (each_of read (map form ys))) (whole y f.0)
    ∙ ap (both ◌∷◌ (Some y)) (each-whole read form Fits whole ys f.1)

pub each-exact : {V A : Type 0} (read : V → Option A) (form : A → V) (Fits : A → Type 0) → Exact read form Fits → Exact (each_of read) (map form) (Each Fits)
each-exact read form Fits x = record {
  back = each-back read form x.back;
  fits = each-fits read Fits x.fits;
  whole = each-whole read form Fits x.whole;
}

-- a list of what is read
pub chain-whole : {V W A : Type 0} (list : V → Option W) (read : W → Option A) (w : V) (u : W) (a : A) → list w ≡ Some u → read u ≡ Some a → option_and_then read (list w) ≡ Some a
chain-whole list read w u a first second = ap (option_and_then read) first ∙ second

pub both-whole : {A B C : Type 0} (f : A → B → C) (o : Option A) (p : Option B) (a : A) (b : B) → o ≡ Some a → p ≡ Some b → both f o p ≡ Some (f a b)
both-whole f o p a b first second = ap (λ q. both f q p) first ∙ ap (both f (Some a)) second

pub choose : {A : Type 0} (b : Bool) (o p : Option A) → b ≡ true → (if b then o else p) ≡ o
choose b o p e = ap (λ c. if c then o else p) e

pub pass : {A : Type 0} (b : Bool) (o p : Option A) → b ≡ false → (if b then o else p) ≡ p
pass b o p e = ap (λ c. if c then o else p) e
