-- What a map from names to places has to do with the places of packages.
use Rattle.std.proofs.Common.{◌≡◌, ℕ, zero, suc, ◌+◌, ◌<◌, Bool, true, false, cond, ◌||◌, ◌⊎◌, inl, inr, List, [], ◌∷◌, ◌++◌, refl, sym, ap, ◌∙◌, Option, None, Some, String, length, take, set, get_or, slice_get, option_map, if◌then◌else◌, arith}
use Rattle.std.specs.List.{list_any, position_from}
use Rattle.std.specs.Str.{bytes_eq}
use Rattle.std.proofs.lemmas.Slice.Eq.{bytes_eq-Decides}
use Rattle.indexmap.specs.IndexMap.{IndexMap, get_by_text}
use Rattle.lisp_packages.specs.declared.lisp_package.Package.{Package}
use Rattle.lisp_packages.specs.Named.{HasNames}
use Rattle.lisp_packages.specs.Packages.{is_named, place_of}

-- the first index at which a test passes
abbrev pub first : {X : Type 0} → (X → Bool) → List X → Option ℕ
first f [] = None
first f (x ∷ xs) = if f x then Some zero else option_map suc (first f xs)

position_from-first : {X : Type 0} (f : X → Bool) (n : ℕ) (xs : List X) → position_from f n xs ≡ option_map (λ k. n + k) (first f xs)
position_from-first f n [] = refl
position_from-first f n (x ∷ xs) = by (f x) (first f xs) (position_from-first f (n + 1) xs)
  where
    by : (b : Bool) (o : Option ℕ) → position_from f (n + 1) xs ≡ option_map (λ k. (n + 1) + k) o
        → cond b (Some n) (position_from f (n + 1) xs) ≡ option_map (λ k. n + k) (if b then Some zero else option_map suc o)
    by true o h = let here : n ≡ n + zero = omega arith in ap Some here
    by false None h = h
    by false (Some k) h = let next : (n + 1) + k ≡ n + suc k = omega arith in h ∙ ap Some next

place_of-first : (ps : List Package) (text : List ℕ) → place_of ps text ≡ first (is_named text) ps
place_of-first ps text = position_from-first (is_named text) 0 ps ∙ by (first (is_named text) ps)
  where
    by : (o : Option ℕ) → option_map (λ k. 0 + k) o ≡ o
    by None = refl
    by (Some k) = let same : 0 + k ≡ k = omega arith in ap Some same

module _ {X : Type 0} (f : X → Bool) where
  first-none : (b : Bool) (o : Option ℕ) (j : ℕ) → b ≡ false → cond b (Some zero) (option_map suc o) ≡ Some j → (k : ℕ) × ((o ≡ Some k) × (j ≡ suc k))
  first-none true o j e h = absurd (cc)
  first-none false None j e h = absurd (cc)
  first-none false (Some k) j e h = (k, (refl, cc))

  -- what is found passes
  first-passes : (xs : List X) (j : ℕ) → first f xs ≡ Some j → (x : X) × ((slice_get xs j ≡ Some x) × (f x ≡ true))
  first-passes [] j h = absurd (cc)
  first-passes (x ∷ xs) j h = by (f x) (first f xs) refl h (first-passes xs)
    where
      by : (b : Bool) (o : Option ℕ) → f x ≡ b → cond b (Some zero) (option_map suc o) ≡ Some j
          → ((k : ℕ) → o ≡ Some k → (y : X) × ((slice_get xs k ≡ Some y) × (f y ≡ true))) → (y : X) × ((slice_get (x ∷ xs) j ≡ Some y) × (f y ≡ true))
      by true o e h rest = let here : j ≡ zero = cc in (x, (ap (slice_get (x ∷ xs)) here, e))
      by false None e h rest = absurd (cc)
      by false (Some k) e h rest = let behind : j ≡ suc k = cc in let found = rest k refl in (found.0, (ap (slice_get (x ∷ xs)) behind ∙ found.1.0, found.1.1))

  -- where something passes, something is found
  first-found : (xs : List X) (i : ℕ) (x : X) → slice_get xs i ≡ Some x → f x ≡ true → (j : ℕ) × (first f xs ≡ Some j)
  first-found [] i x h t = absurd (cc)
  first-found (y ∷ xs) zero x h t = let same : y ≡ x = cc in (zero, (λ j. if (ap f same ∙ t) j then Some zero else option_map suc (first f xs)))
  first-found (y ∷ xs) (suc i) x h t = by (f y) (first-found xs i x h t)
    where
      by : (b : Bool) → (j : ℕ) × (first f xs ≡ Some j) → (j : ℕ) × (cond b (Some zero) (option_map suc (first f xs)) ≡ Some j)
      by true found = (zero, refl)
      by false found = (suc found.0, ap (option_map suc) found.1)

  -- one more element
  first-push : (xs : List X) (x : X) (i : ℕ) → first f (xs ++ x ∷ []) ≡ Some i → (first f xs ≡ Some i) ⊎ ((first f xs ≡ None) × ((f x ≡ true) × (i ≡ length xs)))
  first-push [] x i h = by (f x) refl h
    where
      by : (b : Bool) → f x ≡ b → cond b (Some zero) None ≡ Some i → (None ≡ Some i) ⊎ ((let none : Option ℕ = None in none ≡ None) × ((f x ≡ true) × (i ≡ zero)))
      by true e h = inr (refl, (e, cc))
      by false e h = absurd (cc)
  first-push (y ∷ xs) x i h = by (f y) (first f (xs ++ x ∷ [])) (first f xs) h (first-push xs x)
    where
      next : (a : Option ℕ) (k : ℕ) → i ≡ suc k → (a ≡ Some k) ⊎ ((a ≡ None) × ((f x ≡ true) × (k ≡ length xs)))
          → (option_map suc a ≡ Some i) ⊎ ((option_map suc a ≡ None) × ((f x ≡ true) × (i ≡ length (y ∷ xs))))
      next a k e (inl h) = inl (ap (option_map suc) h ∙ ap Some (sym e))
      next a k e (inr h) = let last : i ≡ length (y ∷ xs) = omega (arith, e, h.1.1) in inr (ap (option_map suc) h.0, (h.1.0, last))

      by : (b : Bool) (o a : Option ℕ) → cond b (Some zero) (option_map suc o) ≡ Some i
          → ((k : ℕ) → o ≡ Some k → (a ≡ Some k) ⊎ ((a ≡ None) × ((f x ≡ true) × (k ≡ length xs))))
          → (cond b (Some zero) (option_map suc a) ≡ Some i) ⊎ ((cond b (Some zero) (option_map suc a) ≡ None) × ((f x ≡ true) × (i ≡ length (y ∷ xs))))
      by true o a h rest = inl h
      by false None a h rest = absurd (cc)
      by false (Some k) a h rest = let e : i ≡ suc k = cc in next a k e (rest k refl)

  -- of a beginning
  first-take : (n : ℕ) (xs : List X) (i : ℕ) → first f (take n xs) ≡ Some i → first f xs ≡ Some i
  first-take zero xs i h = absurd (cc)
  first-take (suc n) [] i h = h
  first-take (suc n) (x ∷ xs) i h = by (f x) (first f (take n xs)) h (first-take n xs)
    where
      by : (b : Bool) (o : Option ℕ) → cond b (Some zero) (option_map suc o) ≡ Some i → ((k : ℕ) → o ≡ Some k → first f xs ≡ Some k)
          → cond b (Some zero) (option_map suc (first f xs)) ≡ Some i
      by true o h rest = h
      by false None h rest = absurd (cc)
      by false (Some k) h rest = ap (option_map suc) (rest k refl) ∙ h

  -- a write of something that passes as before
  first-set : (xs : List X) (i : ℕ) (old new : X) → old ≡ get_or xs i old → f new ≡ f old → first f (set xs i new) ≡ first f xs
  first-set [] i old new e h = refl
  first-set (x ∷ xs) zero old new e h = λ j. if (h ∙ ap f e) j then Some zero else option_map suc (first f xs)
  first-set (x ∷ xs) (suc i) old new e h = ap (λ o. if f x then Some zero else option_map suc o) (first-set xs i old new e h)

-- a write that changes no name
pub HasNames-set : {A S : Type 0} (names : IndexMap (String A) ℕ S) (ps : List Package) (i : ℕ) (old new : Package) → HasNames names ps → old ≡ get_or ps i old
    → ((text : List ℕ) → is_named text new ≡ is_named text old) → HasNames names (set ps i new)
HasNames-set names ps i old new has e same text k h =
    has text k (place_of-first ps text ∙ sym (first-set (is_named text) ps i old new e (same text)) ∙ sym (place_of-first (set ps i new) text) ∙ h)

pub HasNames-take : {A S : Type 0} (names : IndexMap (String A) ℕ S) (ps : List Package) (n : ℕ) → HasNames names ps → HasNames names (take n ps)
HasNames-take names ps n has text k h = has text k (place_of-first ps text ∙ first-take (is_named text) n ps k (sym (place_of-first (take n ps) text) ∙ h))

-- one more package, whose names are there
pub HasNames-push : {A S : Type 0} (names : IndexMap (String A) ℕ S) (ps : List Package) (p : Package) → HasNames names ps
    → ((text : List ℕ) → is_named text p ≡ true → place_of ps text ≡ None → get_by_text names text ≡ Some (length ps)) → HasNames names (ps ++ p ∷ [])
HasNames-push names ps p has new text k h = by (first-push (is_named text) ps p k (sym (place_of-first (ps ++ p ∷ []) text) ∙ h))
  where
    by : (first (is_named text) ps ≡ Some k) ⊎ ((first (is_named text) ps ≡ None) × ((is_named text p ≡ true) × (k ≡ length ps))) → get_by_text names text ≡ Some k
    by (inl found) = has text k (place_of-first ps text ∙ found)
    by (inr last) = new text last.1.0 (place_of-first ps text ∙ last.0) ∙ ap Some (sym last.1.1)

-- what a look-up tells
none_unless : {A S : Type 0} (names : IndexMap (String A) ℕ S) (ps : List Package) (text : List ℕ) → HasNames names ps → ((j : ℕ) → place_of ps text ≡ Some j → ⊥) → None ≡ place_of ps text
none_unless names ps text has refuse = by (place_of ps text) refuse
  where
    by : (o : Option ℕ) → ((j : ℕ) → o ≡ Some j → ⊥) → None ≡ o
    by None refuse = refl
    by (Some j) refuse = absurd (refuse j refl)

pub place_of-unknown : {A S : Type 0} (names : IndexMap (String A) ℕ S) (ps : List Package) (text : List ℕ) → HasNames names ps → get_by_text names text ≡ None → None ≡ place_of ps text
place_of-unknown names ps text has h = none_unless names ps text has (λ j there. let found = has text j there in absurd (cc))

found_is : {A S : Type 0} (names : IndexMap (String A) ℕ S) (ps : List Package) (text : List ℕ) (i : ℕ) → HasNames names ps → get_by_text names text ≡ Some i
    → (j : ℕ) → place_of ps text ≡ Some j → (p : Package) × ((slice_get ps i ≡ Some p) × (is_named text p ≡ true))
found_is names ps text i has h j there =
    let known = has text j there in
    let same : j ≡ i = cc in
    let found = first-passes (is_named text) ps j (sym (place_of-first ps text) ∙ there) in
    (found.0, (ap (slice_get ps) (sym same) ∙ found.1.0, found.1.1))

pub place_of-past : {A S : Type 0} (names : IndexMap (String A) ℕ S) (ps : List Package) (text : List ℕ) (i : ℕ) → HasNames names ps → get_by_text names text ≡ Some i → slice_get ps i ≡ None → None ≡ place_of ps text
place_of-past names ps text i has h past = none_unless names ps text has (λ j there. let found = found_is names ps text i has h j there in let q = found.1.0 in absurd (cc))

pub place_of-other : {A S : Type 0} (names : IndexMap (String A) ℕ S) (ps : List Package) (text : List ℕ) (i : ℕ) (p : Package) → HasNames names ps → get_by_text names text ≡ Some i → slice_get ps i ≡ Some p
    → is_named text p ≡ false → None ≡ place_of ps text
place_of-other names ps text i p has h at other = none_unless names ps text has
    (λ j there.
    let found = found_is names ps text i has h j there in
    let q = found.1.0 in
    let same : found.0 ≡ p = cc in
    let named : is_named text p ≡ true = sym (ap (is_named text) same) ∙ found.1.1 in
    absurd (cc))

pub place_of-there : {A S : Type 0} (names : IndexMap (String A) ℕ S) (ps : List Package) (text : List ℕ) (i : ℕ) (p : Package) → HasNames names ps → get_by_text names text ≡ Some i → slice_get ps i ≡ Some p
    → is_named text p ≡ true → Some i ≡ place_of ps text
place_of-there names ps text i p has h at named =
    let found = first-found (is_named text) ps i p at named in
    let known = has text found.0 (place_of-first ps text ∙ found.1) in
    let same : i ≡ found.0 = cc in
    ap Some same ∙ sym found.1 ∙ sym (place_of-first ps text)

any-take : {X : Type 0} (f : X → Bool) (xs : List X) (i : ℕ) (x : X) → slice_get xs i ≡ Some x → list_any f (take (suc i) xs) ≡ (list_any f (take i xs) || f x)
any-take f [] i x h = absurd (cc)
any-take f (y ∷ xs) zero x h = let same : y ≡ x = cc in or_none (f y) ∙ ap f same
  where
    or_none : (b : Bool) → (b || false) ≡ b
    or_none true = refl
    or_none false = refl
any-take f (y ∷ xs) (suc i) x h = ap (λ b. f y || b) (any-take f xs i x h) ∙ or_assoc (f y) (list_any f (take i xs)) (f x)
  where
    or_assoc : (a b c : Bool) → (a || (b || c)) ≡ ((a || b) || c)
    or_assoc true b c = refl
    or_assoc false b c = refl

-- one more nickname
pub added-step : {A S : Type 0} (old new : IndexMap (String A) ℕ S) (ps : List Package) (place : ℕ) (name : List ℕ) (nicknames : List (List ℕ)) (i : ℕ) (x : List ℕ) → slice_get nicknames i ≡ Some x
    → ((t : List ℕ) → (bytes_eq t name || list_any (bytes_eq t) (take i nicknames)) ≡ true → place_of ps t ≡ None → get_by_text old t ≡ Some place)
    → (place_of ps x ≡ None → get_by_text new x ≡ Some place)
    → ((t : List ℕ) → get_by_text old t ≡ Some place → get_by_text new t ≡ Some place)
    → (t : List ℕ) → (bytes_eq t name || list_any (bytes_eq t) (take (i + 1) nicknames)) ≡ true → place_of ps t ≡ None → get_by_text new t ≡ Some place
added-step old new ps place name nicknames i x at before here kept t named none =
    let next : suc i ≡ i + 1 = omega arith in
    by (bytes_eq t name) (list_any (bytes_eq t) (take i nicknames)) (bytes_eq t x) refl refl refl
    (ap (λ b. bytes_eq t name || b) (sym (any-take (bytes_eq t) nicknames i x at) ∙ ap (λ n. list_any (bytes_eq t) (take n nicknames)) next) ∙ named)
  where
    was : (bytes_eq t name || list_any (bytes_eq t) (take i nicknames)) ≡ true → get_by_text new t ≡ Some place
    was h = kept t (before t h none)

    is : bytes_eq t x ≡ true → get_by_text new t ≡ Some place
    is h = let same : t ≡ x = (bytes_eq-Decides t x).0 h in ap (get_by_text new) same ∙ here (sym (ap (place_of ps) same) ∙ none)

    by : (a b c : Bool) → bytes_eq t name ≡ a → list_any (bytes_eq t) (take i nicknames) ≡ b → bytes_eq t x ≡ c → (a || (b || c)) ≡ true → get_by_text new t ≡ Some place
    by true b c p q r h = was (λ j. p j || list_any (bytes_eq t) (take i nicknames))
    by false true c p q r h = was (λ j. p j || q j)
    by false false true p q r h = is r
    by false false false p q r h = absurd (cc)

pub slice_get-item : {X : Type 0} (xs : List X) (i : ℕ) (x : X) → i < length xs → x ≡ get_or xs i x → slice_get xs i ≡ Some x
slice_get-item [] i x h e = absurd (omega arith)
slice_get-item (y ∷ xs) zero x h e = ap Some (sym e)
slice_get-item (y ∷ xs) (suc i) x h e = slice_get-item xs i x (omega arith) e
