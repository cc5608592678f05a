-- The places of symbols in a map, and what a change does to them.
use Rattle.std.proofs.Common.{◌≡◌, ℕ, zero, suc, Bool, true, false, cond, ◌&&◌, List, [], ◌∷◌, ◌++◌, refl, sym, ap, ◌∙◌, Option, None, Some, String, length, slice_get, get_or, set, ◌<◌, ◌≤◌, find, option_map, if◌then◌else◌, arith}
use Rattle.std.specs.Bool.{Decides, one_answer}
use Rattle.std.specs.Str.{bytes_eq}
use Rattle.std.proofs.lemmas.Slice.Eq.{bytes_eq-Decides}
use Rattle.lisp_data.specs.declared.symbol.Symbol.{Symbol}
use Rattle.lisp_data.specs.Same.{same_symbol}
use Rattle.lisp_image.specs.SymbolMap.{is_for, value_of, with_value}
use Rattle.indexmap.specs.IndexMap.{IndexMap}
use Rattle.lisp_image.specs.Places.{number_of, place_of, IsIndexed, with_value_at}

-- the test for the same symbol
pub same_symbol-Decides : (s t : Symbol) → Decides (same_symbol s t) (s ≡ t)
same_symbol-Decides s t = (by (bytes_eq s.home t.home) (bytes_eq s.name t.name) refl refl, (λ p. (λ j. same_symbol s (sym p j)) ∙ itself s))
  where
    by : (a b : Bool) → bytes_eq s.home t.home ≡ a → bytes_eq s.name t.name ≡ b → (a && b) ≡ true → s ≡ t
    by true true p q h = λ j. record { home = (bytes_eq-Decides s.home t.home).0 p j; name = (bytes_eq-Decides s.name t.name).0 q j }
    by true false p q h = absurd (cc)
    by false b p q h = absurd (cc)

    itself : (s : Symbol) → same_symbol s s ≡ true
    itself s = λ j. (bytes_eq-Decides s.home s.home).1 refl j && (bytes_eq-Decides s.name s.name).1 refl j

pub same_symbol-comm : (s t : Symbol) → same_symbol s t ≡ same_symbol t s
same_symbol-comm s t = one_answer (same_symbol s t) (same_symbol t s) (same_symbol-Decides s t) ((λ h. sym ((same_symbol-Decides t s).0 h)), (λ p. (same_symbol-Decides t s).1 (sym p)))

-- two symbols that are not the same are not both a third
apart : (s t u : Symbol) → same_symbol s u ≡ false → same_symbol t u ≡ true → same_symbol s t ≡ false
apart s t u differ same = by (same_symbol s t) refl
  where
    by : (b : Bool) → same_symbol s t ≡ b → b ≡ false
    by true h = let both : same_symbol s u ≡ true = (same_symbol-Decides s u).1 ((same_symbol-Decides s t).0 h ∙ (same_symbol-Decides t u).0 same) in absurd (cc)
    by false h = refl

-- a symbol that has no place has none behind the first entry, and isn't the first
none_behind : (b : Bool) (o : Option ℕ) → cond b (Some zero) (option_map suc o) ≡ None → (b ≡ false) × (o ≡ None)
none_behind true o h = absurd (cc)
none_behind false None h = (refl, refl)
none_behind false (Some n) h = absurd (cc)

module _ {V : Type 0} where
  -- once a new symbol is added last
  pub place_of-push : (es : List (Symbol × V)) (s t : Symbol) (v : V) → place_of es s ≡ None
      → place_of (es ++ (s, v) ∷ []) t ≡ (if same_symbol s t then Some (length es) else place_of es t)
  place_of-push [] s t v h = λ j. cond (same_symbol-comm t s j) (Some zero) None
  place_of-push (e ∷ es) s t v h =
      let parts = none_behind (same_symbol s e.0) (place_of es s) h in
      by (same_symbol t e.0) (same_symbol s t) (λ here. apart s t e.0 parts.0 here) (place_of-push es s t v parts.1)
    where
      by : (a b : Bool) → (a ≡ true → b ≡ false) → place_of (es ++ (s, v) ∷ []) t ≡ (if b then Some (length es) else place_of es t)
          → cond a (Some zero) (option_map suc (place_of (es ++ (s, v) ∷ []) t)) ≡ (if b then Some (length (e ∷ es)) else cond a (Some zero) (option_map suc (place_of es t)))
      by true true f rest = let no : true ≡ false = f refl in absurd (cc)
      by true false f rest = refl
      by false true f rest = let next : suc (length es) ≡ length (e ∷ es) = omega arith in ap (option_map suc) rest ∙ ap Some next
      by false false f rest = ap (option_map suc) rest

  -- a new symbol goes last
  pub with_value-new : (es : List (Symbol × V)) (s : Symbol) (v : V) → place_of es s ≡ None → with_value es s v ≡ es ++ (s, v) ∷ []
  with_value-new [] s v h = refl
  with_value-new (e ∷ es) s v h =
      let parts = none_behind (same_symbol s e.0) (place_of es s) h in
      (λ j. cond (parts.0 j) ((e.0, v) ∷ es) (e ∷ with_value es s v)) ∙ ap (λ r. e ∷ r) (with_value-new es s v parts.1)

  -- a symbol that has a value keeps its place
  pub with_value-there : (es : List (Symbol × V)) (s : Symbol) (v : V) (p : ℕ) → place_of es s ≡ Some p → with_value_at es p v ≡ with_value es s v
  with_value-there [] s v p h = absurd (cc)
  with_value-there (e ∷ es) s v p h = by (same_symbol s e.0) (place_of es s) h (with_value-there es s v)
    where
      by : (b : Bool) (o : Option ℕ) → cond b (Some zero) (option_map suc o) ≡ Some p → ((q : ℕ) → o ≡ Some q → with_value_at es q v ≡ with_value es s v)
          → with_value_at (e ∷ es) p v ≡ cond b ((e.0, v) ∷ es) (e ∷ with_value es s v)
      by true o h rest = let here : p ≡ zero = cc in ap (λ q. with_value_at (e ∷ es) q v) here
      by false None h rest = absurd (cc)
      by false (Some q) h rest = let behind : p ≡ suc q = cc in ap (λ q. with_value_at (e ∷ es) q v) behind ∙ ap (λ r. e ∷ r) (rest q refl)

  -- another value moves no symbol
  pub place_of-with_value_at : (es : List (Symbol × V)) (p : ℕ) (v : V) (t : Symbol) → place_of (with_value_at es p v) t ≡ place_of es t
  place_of-with_value_at [] p v t = refl
  place_of-with_value_at (e ∷ es) zero v t = refl
  place_of-with_value_at (e ∷ es) (suc p) v t = ap (λ o. cond (same_symbol t e.0) (Some zero) (option_map suc o)) (place_of-with_value_at es p v t)

  -- the value stands at the symbol's place
  pub value_at-place : (es : List (Symbol × V)) (s : Symbol) (p : ℕ) → place_of es s ≡ Some p → option_map (λ e. e.1) (slice_get es p) ≡ value_of es s
  value_at-place [] s p h = absurd (cc)
  value_at-place (e ∷ es) s p h = by (same_symbol s e.0) (place_of es s) h (value_at-place es s)
    where
      by : (b : Bool) (o : Option ℕ) → cond b (Some zero) (option_map suc o) ≡ Some p → ((q : ℕ) → o ≡ Some q → option_map (λ e. e.1) (slice_get es q) ≡ value_of es s)
          → option_map (λ (e : Symbol × V). e.1) (slice_get (e ∷ es) p) ≡ option_map (λ e. e.1) (cond b (Some e) (find (is_for s) es))
      by true o h rest = let here : p ≡ zero = cc in ap (λ q. option_map (λ (e : Symbol × V). e.1) (slice_get (e ∷ es) q)) here
      by false None h rest = absurd (cc)
      by false (Some q) h rest = let behind : p ≡ suc q = cc in ap (λ q. option_map (λ (e : Symbol × V). e.1) (slice_get (e ∷ es) q)) behind ∙ rest q refl

  pub value_of-none : (es : List (Symbol × V)) (s : Symbol) → place_of es s ≡ None → value_of es s ≡ None
  value_of-none [] s h = refl
  value_of-none (e ∷ es) s h =
      let parts = none_behind (same_symbol s e.0) (place_of es s) h in
      (λ j. option_map (λ (e : Symbol × V). e.1) (cond (parts.0 j) (Some e) (find (is_for s) es))) ∙ value_of-none es s parts.1

  -- a write of the value at a place
  pub set-value : (es : List (Symbol × V)) (p : ℕ) (x : Symbol × V) (v : V) → p < length es → x ≡ get_or es p x → set es p (x.0, v) ≡ with_value_at es p v
  set-value [] p x v h e = absurd (omega arith)
  set-value (first ∷ es) zero x v h e = λ j. ((e j).0, v) ∷ es
  set-value (first ∷ es) (suc p) x v h e = ap (λ r. first ∷ r) (set-value es p x v (omega arith) e)

  pub with_value_at-past : (es : List (Symbol × V)) (p : ℕ) (v : V) → length es ≤ p → es ≡ with_value_at es p v
  with_value_at-past [] p v h = refl
  with_value_at-past (e ∷ es) zero v h = absurd (omega arith)
  with_value_at-past (e ∷ es) (suc p) v h = ap (λ r. e ∷ r) (with_value_at-past es p v (omega arith))

  -- the numbers of a map after a new symbol is added last
  pub IsIndexed-push : {A B S T : Type 0} (old new : IndexMap (String A) (IndexMap (String B) ℕ S) T) (es : List (Symbol × V)) (s : Symbol) (v : V) → IsIndexed old es
      → ((h n : List ℕ) → number_of new h n ≡ (if bytes_eq s.home h && bytes_eq s.name n then Some (length es) else number_of old h n)) → place_of es s ≡ None
      → IsIndexed new (es ++ (s, v) ∷ [])
  IsIndexed-push old new es s v indexed f h t = f t.home t.name ∙ (λ j. if same_symbol s t then Some (length es) else indexed t j) ∙ sym (place_of-push es s t v h)

  -- a map after one more value: the symbol has it, and the others have what they had
  pub value_of-with_value : (es : List (Symbol × V)) (s t : Symbol) (v : V) → value_of (with_value es s v) t ≡ (if same_symbol s t then Some v else value_of es t)
  value_of-with_value [] s t v = (λ j. option_map (λ (e : Symbol × V). e.1) (cond (same_symbol-comm t s j) (Some (s, v)) None)) ∙ by (same_symbol s t)
    where
      by : (b : Bool) → option_map (λ (e : Symbol × V). e.1) (cond b (Some (s, v)) None) ≡ (if b then Some v else None)
      by true = refl
      by false = refl
  value_of-with_value (e ∷ es) s t v = by (same_symbol s e.0) refl (value_of-with_value es s t v)
    where
      here : (a b : Bool) → a ≡ b → option_map (λ (x : Symbol × V). x.1) (cond a (Some (e.0, v)) (find (is_for t) es)) ≡ (if b then Some v else option_map (λ (x : Symbol × V). x.1) (cond a (Some e) (find (is_for t) es)))
      here true true h = refl
      here true false h = absurd (cc)
      here false true h = absurd (cc)
      here false false h = refl

      behind : (a b : Bool) → (a ≡ true → b ≡ false) → value_of (with_value es s v) t ≡ (if b then Some v else value_of es t)
          → option_map (λ (x : Symbol × V). x.1) (cond a (Some e) (find (is_for t) (with_value es s v))) ≡ (if b then Some v else option_map (λ (x : Symbol × V). x.1) (cond a (Some e) (find (is_for t) es)))
      behind true true f rest = let wrong : true ≡ false = f refl in absurd (cc)
      behind true false f rest = refl
      behind false true f rest = rest
      behind false false f rest = rest

      by : (b : Bool) → same_symbol s e.0 ≡ b → value_of (with_value es s v) t ≡ (if same_symbol s t then Some v else value_of es t)
          → option_map (λ (x : Symbol × V). x.1) (find (is_for t) (cond b ((e.0, v) ∷ es) (e ∷ with_value es s v))) ≡ (if same_symbol s t then Some v else option_map (λ (x : Symbol × V). x.1) (cond (same_symbol t e.0) (Some e) (find (is_for t) es)))
      by true q rest = here (same_symbol t e.0) (same_symbol s t) (same_symbol-comm t e.0 ∙ (λ j. same_symbol (sym ((same_symbol-Decides s e.0).0 q) j) t))
      by false q rest = behind (same_symbol t e.0) (same_symbol s t) (λ h. apart s t e.0 q h) rest
