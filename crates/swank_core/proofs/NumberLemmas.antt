-- What is found at each of so many numbers.
use Rattle.std.proofs.Common.{◌≡◌, ◌≢◌, ℕ, zero, suc, ◌+◌, ◌<◌, ◌≤◌, Bool, true, false, List, [], ◌∷◌, ◌++◌, length, map, Option, Some, None, ⊎_elim, refl, sym, ap, ◌∙◌, subst, arith}
use Rattle.std.specs.Prelude.{◌==◌, if◌then◌else◌, find, slice_get, slice_set, remove, drop}
use Rattle.std.specs.Option.{option_map_or}
use Rattle.std.proofs.lemmas.Bool.{cases_eq, eq-eqb, ne_eqb}
use Rattle.std.proofs.lemmas.Option.{none-some, same_Some}
use Rattle.session_model.specs.Pipe.{numbers}
use Rattle.swank_core.specs.Kept.{found, first, AreRising}

-- ---- numbers

pub length-numbers : (n s : ℕ) → length (numbers n s) ≡ n
length-numbers zero s = refl
length-numbers (suc n) s = ap suc (length-numbers n (s + 1))

module _ {Y : Type 0} where
  pub get-numbers : (f : ℕ → Y) (n s i : ℕ) → i < n → slice_get (map f (numbers n s)) i ≡ Some (f (s + i))
  get-numbers f zero s i h = absurd (omega (arith, h))
  get-numbers f (suc n) s zero h = let e : s ≡ s + 0 = omega arith in ap (λ k. Some (f k)) e
  get-numbers f (suc n) s (suc i) h =
      let e : s + 1 + i ≡ s + suc i = omega arith in
      get-numbers f n (s + 1) i (omega arith) ∙ ap (λ k. Some (f k)) e

  pub past-numbers : (f : ℕ → Y) (n s i : ℕ) → n ≤ i → slice_get (map f (numbers n s)) i ≡ None
  past-numbers f zero s i h = refl
  past-numbers f (suc n) s zero h = absurd (omega (arith, h))
  past-numbers f (suc n) s (suc i) h = past-numbers f n (s + 1) i (omega arith)

  pub same-numbers : (f g : ℕ → Y) (n s : ℕ) → ((k : ℕ) → s ≤ k → k < s + n → f k ≡ g k) → map f (numbers n s) ≡ map g (numbers n s)
  same-numbers f g zero s h = refl
  same-numbers f g (suc n) s h =
      ap (λ y. y ∷ map f (numbers n (s + 1))) (h s (omega arith) (omega arith))
      ∙ ap (λ ys. g s ∷ ys) (same-numbers f g n (s + 1) (λ k low high. h k (omega arith) (omega arith)))

  pub set-numbers : (f g : ℕ → Y) (n s i : ℕ) (y : Y) → g (s + i) ≡ y → ((k : ℕ) → k ≢ s + i → g k ≡ f k)
      → slice_set (map f (numbers n s)) i y ≡ map g (numbers n s)
  set-numbers f g zero s i y here other = refl
  set-numbers f g (suc n) s zero y here other =
      let e : s ≡ s + 0 = omega arith in
      ap (λ v. v ∷ map f (numbers n (s + 1))) (sym here ∙ ap g (sym e))
      ∙ ap (λ ys. g s ∷ ys) (same-numbers f g n (s + 1) (λ k low high. sym (other k (λ e. absurd (omega (arith, e, low))))))
  set-numbers f g (suc n) s (suc i) y here other =
      let e : s + 1 + i ≡ s + suc i = omega arith in
      ap (λ v. v ∷ slice_set (map f (numbers n (s + 1))) i y) (sym (other s (λ q. absurd (omega (arith, q)))))
      ∙ ap (λ ys. g s ∷ ys) (set-numbers f g n (s + 1) i y (ap g e ∙ here) (λ k ne. other k (λ q. ne (q ∙ sym e))))

  pub more-numbers : (f : ℕ → Y) (n s : ℕ) → map f (numbers (suc n) s) ≡ map f (numbers n s) ++ f (s + n) ∷ []
  more-numbers f zero s = let e : s ≡ s + 0 = omega arith in ap (λ k. f k ∷ []) e
  more-numbers f (suc n) s =
      let e : s + 1 + n ≡ s + suc n = omega arith in
      ap (λ ys. f s ∷ ys) (more-numbers f n (s + 1) ∙ ap (λ k. map f (numbers n (s + 1)) ++ f k ∷ []) e)

-- ---- what is found

if_true : {X : Type 0} (b : Bool) (x y : X) → b ≡ true → (if b then x else y) ≡ x
if_true true x y e = refl
if_true false x y e = absurd (cc)

if_false : {X : Type 0} (b : Bool) (x y : X) → b ≡ false → (if b then x else y) ≡ y
if_false true x y e = absurd (cc)
if_false false x y e = refl

module _ {R X : Type 0} (number : R → ℕ) (value : R → X) where
  pub found_here : (r : R) (rs : List R) (t : ℕ) → number r ≡ t → found number value (r ∷ rs) t ≡ Some (value r)
  found_here r rs t e = if_true (number r == t) (Some (value r)) (found number value rs t) (eq-eqb (number r) t e)

  pub found_later : (r : R) (rs : List R) (t : ℕ) → number r ≢ t → found number value (r ∷ rs) t ≡ found number value rs t
  found_later r rs t ne = if_false (number r == t) (Some (value r)) (found number value rs t) (ne_eqb (number r) t ne)

  -- below the first number, and past the last, nothing is found
  pub found_below : (rs : List R) (s n t : ℕ) → AreRising number s n rs → t < s → found number value rs t ≡ None
  found_below [] s n t h less = refl
  found_below (r ∷ rs) s n t h less =
      found_later r rs t (λ e. absurd (omega (arith, e, less, h.0)))
      ∙ found_below rs (number r + 1) n t h.2 (omega (arith, less, h.0))

  pub found_past : (rs : List R) (s n t : ℕ) → AreRising number s n rs → n ≤ t → found number value rs t ≡ None
  found_past [] s n t h past = refl
  found_past (r ∷ rs) s n t h past =
      found_later r rs t (λ e. absurd (omega (arith, e, past, h.1))) ∙ found_past rs (number r + 1) n t h.2 past

  pub rising_weaker : (rs : List R) (s u n : ℕ) → AreRising number s n rs → u ≤ s → AreRising number u n rs
  rising_weaker [] s u n h less = tt
  rising_weaker (r ∷ rs) s u n h less = (omega (arith, h.0, less), h.1, h.2)

  pub rising_further : (rs : List R) (s n m : ℕ) → AreRising number s n rs → n ≤ m → AreRising number s m rs
  rising_further [] s n m h less = tt
  rising_further (r ∷ rs) s n m h less = (h.0, omega (arith, h.1, less), rising_further rs (number r + 1) n m h.2 less)

  -- a kept one is found at its number
  pub found_at : (rs : List R) (i s n : ℕ) (r : R) → AreRising number s n rs → slice_get rs i ≡ Some r → found number value rs (number r) ≡ Some (value r)
  found_at [] i s n r h e = absurd (none-some r e)
  found_at (q ∷ rs) zero s n r h e =
      let same : q ≡ r = same_Some q r e in
      found_here q rs (number r) (ap number same) ∙ ap (λ x. Some (value x)) same
  found_at (q ∷ rs) (suc i) s n r h e =
      found_later q rs (number r) (λ same. absurd (omega (arith, same, rises rs i (number q + 1) n r h.2 e)))
      ∙ found_at rs i (number q + 1) n r h.2 e
    where
      rises : (rs : List R) (i s n : ℕ) (r : R) → AreRising number s n rs → slice_get rs i ≡ Some r → s ≤ number r
      rises [] i s n r h e = absurd (none-some r e)
      rises (q ∷ rs) zero s n r h e = subst (λ x. s ≤ number x) (same_Some q r e) h.0
      rises (q ∷ rs) (suc i) s n r h e = let later : number q + 1 ≤ number r = rises rs i (number q + 1) n r h.2 e in omega (arith, later, h.0)

  -- each kept one of a list that rises from s has at least the number s
  pub rises : (rs : List R) (i s n : ℕ) (r : R) → AreRising number s n rs → slice_get rs i ≡ Some r → s ≤ number r
  rises [] i s n r h e = absurd (none-some r e)
  rises (q ∷ rs) zero s n r h e = subst (λ x. s ≤ number x) (same_Some q r e) h.0
  rises (q ∷ rs) (suc i) s n r h e = let later : number q + 1 ≤ number r = rises rs i (number q + 1) n r h.2 e in omega (arith, later, h.0)

  pub rises_below : (rs : List R) (i s n : ℕ) (r : R) → AreRising number s n rs → slice_get rs i ≡ Some r → number r < n
  rises_below [] i s n r h e = absurd (none-some r e)
  rises_below (q ∷ rs) zero s n r h e = subst (λ x. number x < n) (same_Some q r e) h.1
  rises_below (q ∷ rs) (suc i) s n r h e = rises_below rs i (number q + 1) n r h.2 e

  -- ---- a kept one is changed

  pub rising_set : (rs : List R) (i s n : ℕ) (r new : R) → AreRising number s n rs → slice_get rs i ≡ Some r → number new ≡ number r → AreRising number s n (slice_set rs i new)
  rising_set [] i s n r new h e same = tt
  rising_set (q ∷ rs) zero s n r new h e same =
      let is : number new ≡ number q = same ∙ sym (ap number (same_Some q r e)) in
      (subst (λ k. s ≤ k) (sym is) h.0, subst (λ k. k < n) (sym is) h.1, subst (λ k. AreRising number (k + 1) n rs) (sym is) h.2)
  rising_set (q ∷ rs) (suc i) s n r new h e same = (h.0, h.1, rising_set rs i (number q + 1) n r new h.2 e same)

  pub found_set_here : (rs : List R) (i s n : ℕ) (r new : R) → AreRising number s n rs → slice_get rs i ≡ Some r → number new ≡ number r
      → found number value (slice_set rs i new) (number r) ≡ Some (value new)
  found_set_here [] i s n r new h e same = absurd (none-some r e)
  found_set_here (q ∷ rs) zero s n r new h e same = found_here new rs (number r) same
  found_set_here (q ∷ rs) (suc i) s n r new h e same =
      found_later q (slice_set rs i new) (number r) (λ is. absurd (omega (arith, is, rises rs i (number q + 1) n r h.2 e)))
      ∙ found_set_here rs i (number q + 1) n r new h.2 e same

  found_same : (q : R) (a b : List R) (t : ℕ) → found number value a t ≡ found number value b t → found number value (q ∷ a) t ≡ found number value (q ∷ b) t
  found_same q a b t e = ap (λ o. if number q == t then Some (value q) else o) e

  pub found_set_other : (rs : List R) (i t : ℕ) (r new : R) → slice_get rs i ≡ Some r → number new ≡ number r → t ≢ number r
      → found number value (slice_set rs i new) t ≡ found number value rs t
  found_set_other [] i t r new e same ne = refl
  found_set_other (q ∷ rs) zero t r new e same ne =
      found_later new rs t (λ is. ne (sym is ∙ same))
      ∙ sym (found_later q rs t (λ is. ne (sym is ∙ ap number (same_Some q r e))))
  found_set_other (q ∷ rs) (suc i) t r new e same ne = found_same q (slice_set rs i new) rs t (found_set_other rs i t r new e same ne)

  -- ---- a kept one is taken out

  pub rising_remove : (rs : List R) (i s n : ℕ) → AreRising number s n rs → AreRising number s n (remove rs i)
  rising_remove [] zero s n h = tt
  rising_remove [] (suc i) s n h = tt
  rising_remove (q ∷ rs) zero s n h = rising_weaker rs (number q + 1) s n h.2 (omega (arith, h.0))
  rising_remove (q ∷ rs) (suc i) s n h = (h.0, h.1, rising_remove rs i (number q + 1) n h.2)

  pub found_remove_here : (rs : List R) (i s n : ℕ) (r : R) → AreRising number s n rs → slice_get rs i ≡ Some r → found number value (remove rs i) (number r) ≡ None
  found_remove_here [] i s n r h e = absurd (none-some r e)
  found_remove_here (q ∷ rs) zero s n r h e =
      let is : number q ≡ number r = ap number (same_Some q r e) in
      found_below rs (number q + 1) n (number r) h.2 (omega (arith, is))
  found_remove_here (q ∷ rs) (suc i) s n r h e =
      found_later q (remove rs i) (number r) (λ is. absurd (omega (arith, is, rises rs i (number q + 1) n r h.2 e)))
      ∙ found_remove_here rs i (number q + 1) n r h.2 e

  pub found_remove_other : (rs : List R) (i t : ℕ) (r : R) → slice_get rs i ≡ Some r → t ≢ number r → found number value (remove rs i) t ≡ found number value rs t
  found_remove_other [] i t r e ne = absurd (none-some r e)
  found_remove_other (q ∷ rs) zero t r e ne = sym (found_later q rs t (λ is. ne (sym is ∙ ap number (same_Some q r e))))
  found_remove_other (q ∷ rs) (suc i) t r e ne = found_same q (remove rs i) rs t (found_remove_other rs i t r e ne)

  -- ---- a new one comes at the end

  pub rising_push : (rs : List R) (s n : ℕ) (r : R) → AreRising number s n rs → s ≤ n → number r ≡ n → AreRising number s (n + 1) (rs ++ r ∷ [])
  rising_push [] s n r h less is = (omega (arith, less, is), omega (arith, is), tt)
  rising_push (q ∷ rs) s n r h less is = (h.0, omega (arith, h.1), rising_push rs (number q + 1) n r h.2 (omega (arith, h.1)) is)

  pub found_push_other : (rs : List R) (t : ℕ) (r : R) → t ≢ number r → found number value (rs ++ r ∷ []) t ≡ found number value rs t
  found_push_other [] t r ne = found_later r [] t (λ is. ne (sym is))
  found_push_other (q ∷ rs) t r ne = found_same q (rs ++ r ∷ []) rs t (found_push_other rs t r ne)

  pub found_push_here : (rs : List R) (s n : ℕ) (r : R) → AreRising number s n rs → number r ≡ n → found number value (rs ++ r ∷ []) n ≡ Some (value r)
  found_push_here [] s n r h is = found_here r [] n is
  found_push_here (q ∷ rs) s n r h is =
      found_later q (rs ++ r ∷ []) n (λ e. absurd (omega (arith, e, h.1))) ∙ found_push_here rs (number q + 1) n r h.2 is

  -- ---- the kept ones from a number on

  pub rising_drop : (rs : List R) (i s n t : ℕ) → AreRising number s n rs → ((k : ℕ) (r : R) → i ≤ k → slice_get rs k ≡ Some r → t ≤ number r) → AreRising number t n (drop i rs)
  rising_drop [] zero s n t h late = tt
  rising_drop [] (suc i) s n t h late = tt
  rising_drop (q ∷ rs) zero s n t h late = (late 0 q (omega arith) refl, h.1, h.2)
  rising_drop (q ∷ rs) (suc i) s n t h late = rising_drop rs i (number q + 1) n t h.2 (λ k r less e. late (suc k) r (omega (arith, less)) e)

  pub found_drop : (rs : List R) (i t : ℕ) → ((k : ℕ) (r : R) → k < i → slice_get rs k ≡ Some r → number r ≢ t) → found number value (drop i rs) t ≡ found number value rs t
  found_drop [] zero t early = refl
  found_drop [] (suc i) t early = refl
  found_drop (q ∷ rs) zero t early = refl
  found_drop (q ∷ rs) (suc i) t early =
      found_drop rs i t (λ k r less e. early (suc k) r (omega (arith, less)) e) ∙ sym (found_later q rs t (early 0 q (omega arith) refl))

-- ---- all of them

-- the values that are there
abbrev pub somes : {X : Type 0} → List (Option X) → List X
somes [] = []
somes (None ∷ xs) = somes xs
somes (Some x ∷ xs) = x ∷ somes xs

-- whether what is found passes a test
abbrev pub passes : {X : Type 0} → (X → Bool) → Option X → Bool
passes test o = option_map_or test o false

find_same : (p q : ℕ → Bool) (n s : ℕ) → ((k : ℕ) → s ≤ k → p k ≡ q k) → find p (numbers n s) ≡ find q (numbers n s)
find_same p q zero s h = refl
find_same p q (suc n) s h =
    ap (λ b. if b then Some s else find p (numbers n (s + 1))) (h s (omega arith))
    ∙ ap (λ o. if q s then Some s else o) (find_same p q n (s + 1) (λ k low. h k (omega (arith, low))))

module _ {R X : Type 0} (number : R → ℕ) (value : R → X) where
  -- the values that are found are those of all kept ones, in the same order
  pub somes-numbers : (rs : List R) (n s e : ℕ) → AreRising number s e rs → e ≤ s + n → somes (map (found number value rs) (numbers n s)) ≡ map value rs
  somes-numbers [] zero s e h most = refl
  somes-numbers (r ∷ rs) zero s e h most = absurd (omega (arith, h.0, h.1, most))
  somes-numbers [] (suc n) s e h most = somes-numbers [] n (s + 1) e tt (omega (arith, most))
  somes-numbers (r ∷ rs) (suc n) s e h most =
      ⊎_elim
      (λ (is : number r ≡ s).
      ap (λ o. somes (o ∷ map (found number value (r ∷ rs)) (numbers n (s + 1)))) (found_here number value r rs s is)
      ∙ ap (λ ys. value r ∷ somes ys) (same-numbers (found number value (r ∷ rs)) (found number value rs) n (s + 1) (λ k low high. found_later number value r rs k (λ q. absurd (omega (arith, q, is, low)))))
      ∙ ap (λ ys. value r ∷ ys) (somes-numbers rs n (s + 1) e (rising_weaker number value rs (number r + 1) (s + 1) e h.2 (omega (arith, is))) (omega (arith, most))))
      (λ (ne : number r ≡ s → ⊥).
      let later : AreRising number (s + 1) e (r ∷ rs) = (omega (arith, h.0, ne), h.1, h.2) in
      ap (λ o. somes (o ∷ map (found number value (r ∷ rs)) (numbers n (s + 1)))) (found_below number value (r ∷ rs) (s + 1) e s later (omega arith))
      ∙ somes-numbers (r ∷ rs) n (s + 1) e later (omega (arith, most)))
      (cases_eq (number r) s)

  -- the first number at which something passes
  pub find-numbers : (test : X → Bool) (rs : List R) (n s e : ℕ) → AreRising number s e rs → e ≤ s + n
      → find (λ t. passes test (found number value rs t)) (numbers n s) ≡ first number value test rs
  find-numbers test [] zero s e h most = refl
  find-numbers test (r ∷ rs) zero s e h most = absurd (omega (arith, h.0, h.1, most))
  find-numbers test [] (suc n) s e h most = find-numbers test [] n (s + 1) e tt (omega (arith, most))
  find-numbers test (r ∷ rs) (suc n) s e h most =
      ⊎_elim
      (λ (is : number r ≡ s).
      ap (λ o. if passes test o then Some s else find (λ t. passes test (found number value (r ∷ rs) t)) (numbers n (s + 1))) (found_here number value r rs s is)
      ∙ ap (λ o. if test (value r) then Some s else o)
      (find_same (λ t. passes test (found number value (r ∷ rs) t)) (λ t. passes test (found number value rs t)) n (s + 1) (λ k low. ap (passes test) (found_later number value r rs k (λ q. absurd (omega (arith, q, is, low)))))
      ∙ find-numbers test rs n (s + 1) e (rising_weaker number value rs (number r + 1) (s + 1) e h.2 (omega (arith, is))) (omega (arith, most)))
      ∙ ap (λ k. if test (value r) then Some k else first number value test rs) (sym is))
      (λ (ne : number r ≡ s → ⊥).
      let later : AreRising number (s + 1) e (r ∷ rs) = (omega (arith, h.0, ne), h.1, h.2) in
      ap (λ o. if passes test o then Some s else find (λ t. passes test (found number value (r ∷ rs) t)) (numbers n (s + 1))) (found_below number value (r ∷ rs) (s + 1) e s later (omega arith))
      ∙ find-numbers test (r ∷ rs) n (s + 1) e later (omega (arith, most)))
      (cases_eq (number r) s)
