-- What the packages hold once the symbols of a form are made.
use Rattle.std.proofs.Common.{◌≡◌, ℕ, zero, suc, ◌+◌, ◌<◌, ◌-◌, take, Bool, true, false, cond, ◌&&◌, ◌||◌, List, [], ◌∷◌, ◌++◌, refl, sym, ap, ◌∙◌, eqb-true, eq-eqb, true≢false, ◌≢◌, Option, None, Some, Result, Ok, Err, ◌≤◌, length, slice_get, is_some, nat_eq, option_map, if◌then◌else◌}
use Rattle.std.specs.Str.{bytes_eq}
use Rattle.std.specs.List.{position_from}
use Rattle.std.specs.Option.{option_or, option_map_or}
use Rattle.std.proofs.lemmas.Slice.Eq.{bytes_eq-Decides}
use Rattle.std.proofs.lemmas.List.Folds.{find-append}
use Rattle.std.proofs.lemmas.List.Sums.{fold-append}
use Rattle.lisp_data.specs.Symbols.{common_lisp}
use Rattle.lisp_packages.specs.declared.entry.Entry.{Entry}
use Rattle.lisp_packages.specs.declared.lisp_package.Package.{Package}
use Rattle.lisp_packages.specs.Entries.{has_name, entry_of, added}
use Rattle.lisp_packages.specs.declared.fault.NameFault.{NameFault}
use Rattle.lisp_packages.specs.declared.fault.NameFault.TheVariants.{NoPackage, NotExternal}
use Rattle.lisp_packages.specs.Naming.{new_entry, with_new, made_symbol, external_named, in_named}
use Rattle.lisp_packages.specs.Packages.{is_named, place_of, name_at, own_at, uses_at, with_own, external_at, inherited, accessible}
use Rattle.lisp_packages.specs.Made.{has_made, with_made, with_made_at, shortened}
use Rattle.lisp_packages.proofs.PackagesLemmas.{with_own-with_own, own_at-with_own, with_own-own_at, with_own-past}

-- a change of an own list keeps what doesn't depend on it
pub map_or-with_own : {X : Type 0} (f : Package → X) (d : X) → ((p : Package) (own : List Entry) → f (record p { own = own }) ≡ f p)
    → (ps : List Package) (i : ℕ) (own : List Entry) (k : ℕ) → option_map_or f (slice_get (with_own ps i own) k) d ≡ option_map_or f (slice_get ps k) d
map_or-with_own f d same [] i own k = refl
map_or-with_own f d same (p ∷ ps) zero own zero = same p own
map_or-with_own f d same (p ∷ ps) zero own (suc k) = refl
map_or-with_own f d same (p ∷ ps) (suc i) own zero = refl
map_or-with_own f d same (p ∷ ps) (suc i) own (suc k) = map_or-with_own f d same ps i own k

pub map_or-with_made : {X : Type 0} (f : Package → X) (d : X) → ((p : Package) (own : List Entry) → f (record p { own = own }) ≡ f p)
    → (ps : List Package) (made : List (ℕ × List ℕ)) (k : ℕ) → option_map_or f (slice_get (with_made ps made) k) d ≡ option_map_or f (slice_get ps k) d
map_or-with_made f d same ps [] k = refl
map_or-with_made f d same ps (m ∷ made) k =
    map_or-with_made f d same (with_new ps m.0 m.1) made k ∙ map_or-with_own f d same ps m.0 (added (own_at ps m.0) (new_entry (name_at ps m.0) m.1)) k

pub name_at-with_made : (ps : List Package) (made : List (ℕ × List ℕ)) (k : ℕ) → name_at (with_made ps made) k ≡ name_at ps k
name_at-with_made = map_or-with_made (λ p. p.name) [] (λ p own. refl)

pub uses_at-with_made : (ps : List Package) (made : List (ℕ × List ℕ)) (k : ℕ) → uses_at (with_made ps made) k ≡ uses_at ps k
uses_at-with_made = map_or-with_made (λ p. p.uses) [] (λ p own. refl)

position-with_own : (text : List ℕ) (n : ℕ) (ps : List Package) (i : ℕ) (own : List Entry) → position_from (is_named text) n (with_own ps i own) ≡ position_from (is_named text) n ps
position-with_own text n [] i own = refl
position-with_own text n (p ∷ ps) zero own = refl
position-with_own text n (p ∷ ps) (suc i) own = let rest = position-with_own text (n + 1) ps i own in λ j. cond (is_named text p) (Some n) (rest j)

pub place_of-with_made : (ps : List Package) (made : List (ℕ × List ℕ)) (text : List ℕ) → place_of (with_made ps made) text ≡ place_of ps text
place_of-with_made ps [] text = refl
place_of-with_made ps (m ∷ made) text = place_of-with_made (with_new ps m.0 m.1) made text ∙ position-with_own text 0 ps m.0 (added (own_at ps m.0) (new_entry (name_at ps m.0) m.1))

-- one more symbol is made last
pub with_made-push : (ps : List Package) (made : List (ℕ × List ℕ)) (i : ℕ) (name : List ℕ) → with_made ps (made ++ (i, name) ∷ []) ≡ with_new (with_made ps made) i name
with_made-push ps made i name = fold-append (λ after (m : ℕ × List ℕ). with_new after m.0 m.1) ps made ((i, name) ∷ [])

-- the entry, where the test holds
abbrev only : Bool → Entry → Option Entry
only b entry = if b then Some entry else None

-- the entry of a name, once an entry was added
entry_of-added : (own : List Entry) (entry : Entry) (name : List ℕ) → entry_of (added own entry) name ≡ option_or (entry_of own name) (only (bytes_eq name entry.symbol.name) entry)
entry_of-added own entry name = by (entry_of own entry.symbol.name) refl
  where
    -- where the name is there already
    there : (x : Entry) → entry_of own entry.symbol.name ≡ Some x → (b : Bool) → bytes_eq name entry.symbol.name ≡ b
        → entry_of own name ≡ option_or (entry_of own name) (if b then Some entry else None)
    there x h true q = (λ j. entry_of own ((bytes_eq-Decides name entry.symbol.name).0 q j)) ∙ h
        ∙ sym ((λ j. option_or (((λ k. entry_of own ((bytes_eq-Decides name entry.symbol.name).0 q k)) ∙ h) j) (Some entry)))
    there x h false q = or_none (entry_of own name)
      where
        or_none : (o : Option Entry) → o ≡ option_or o None
        or_none None = refl
        or_none (Some x) = refl

    by : (o : Option Entry) → entry_of own entry.symbol.name ≡ o → entry_of (added own entry) name ≡ option_or (entry_of own name) (if bytes_eq name entry.symbol.name then Some entry else None)
    by (Some x) h = (λ j. entry_of (if is_some (h j) then own else own ++ entry ∷ []) name) ∙ there x h (bytes_eq name entry.symbol.name) refl
    by None h = (λ j. entry_of (if is_some (h j) then own else own ++ entry ∷ []) name) ∙ find-append (has_name name) own (entry ∷ [])

-- the changed place, and the others
slice_get-with_own : (ps : List Package) (i : ℕ) (own : List Entry) (p : Package) → slice_get ps i ≡ Some p → slice_get (with_own ps i own) i ≡ Some (record p { own = own })
slice_get-with_own [] i own p h = absurd (cc)
slice_get-with_own (x ∷ ps) zero own p h = ap (λ (o : Option Package). option_map (λ (q : Package). record q { own = own }) o) h
slice_get-with_own (x ∷ ps) (suc i) own p h = slice_get-with_own ps i own p h

pub slice_get-with_own-other : (ps : List Package) (i j : ℕ) (own : List Entry) → i ≢ j → slice_get (with_own ps j own) i ≡ slice_get ps i
slice_get-with_own-other [] i j own h = refl
slice_get-with_own-other (x ∷ ps) zero zero own h = absurd (h refl)
slice_get-with_own-other (x ∷ ps) zero (suc j) own h = refl
slice_get-with_own-other (x ∷ ps) (suc i) zero own h = refl
slice_get-with_own-other (x ∷ ps) (suc i) (suc j) own h = slice_get-with_own-other ps i j own (λ e. h (ap suc e))

slice_get-with_new : (ps : List Package) (i j : ℕ) (n : List ℕ) (p : Package) → i ≡ j → slice_get ps i ≡ Some p → slice_get (with_new ps j n) i ≡ Some (record p { own = added p.own (new_entry p.name n) })
slice_get-with_new ps i j n p e h = sym (ap (λ x. slice_get (with_new ps x n) i) e)
    ∙ slice_get-with_own ps i (added (own_at ps i) (new_entry (name_at ps i) n)) p h
    ∙ (λ k. Some (record p { own = added (option_map_or (λ (q : Package). q.own) (h k) []) (new_entry (option_map_or (λ (q : Package). q.name) (h k) []) n) }))

-- the entry of a name in a package, once symbols are made: the one that was there, else a new one
pub entry_of-with_made : (made : List (ℕ × List ℕ)) (ps : List Package) (i : ℕ) (name : List ℕ) (p : Package) → slice_get ps i ≡ Some p
    → entry_of (own_at (with_made ps made) i) name ≡ option_or (entry_of p.own name) (if has_made made i name then Some (new_entry p.name name) else None)
entry_of-with_made [] ps i name p h = (λ k. entry_of (option_map_or (λ (q : Package). q.own) (h k) []) name) ∙ or_none (entry_of p.own name)
  where
    or_none : (o : Option Entry) → o ≡ option_or o None
    or_none None = refl
    or_none (Some x) = refl
entry_of-with_made (m ∷ made) ps i name p h = by (nat_eq i m.0) refl (entry_of-with_made made (with_new ps m.0 m.1) i name)
  where
    joined : (b : Bool) → bytes_eq name m.1 ≡ b → (has : Bool) (o : Option Entry)
        → option_or (option_or o (if b then Some (new_entry p.name m.1) else None)) (if has then Some (new_entry p.name name) else None)
        ≡ option_or o (if b || has then Some (new_entry p.name name) else None)
    joined true q has None = ap (λ text. Some (new_entry p.name text)) (sym ((bytes_eq-Decides name m.1).0 q))
    joined true q has (Some x) = refl
    joined false q has None = refl
    joined false q has (Some x) = refl

    by : (b : Bool) → nat_eq i m.0 ≡ b
        → ((q : Package) → slice_get (with_new ps m.0 m.1) i ≡ Some q → entry_of (own_at (with_made (with_new ps m.0 m.1) made) i) name ≡ option_or (entry_of q.own name) (if has_made made i name then Some (new_entry q.name name) else None))
        → entry_of (own_at (with_made (with_new ps m.0 m.1) made) i) name ≡ option_or (entry_of p.own name) (if (b && bytes_eq name m.1) || has_made made i name then Some (new_entry p.name name) else None)
    by true e rest = rest (record p { own = added p.own (new_entry p.name m.1) }) (slice_get-with_new ps i m.0 m.1 p (eqb-true i m.0 e) h)
        ∙ (λ k. option_or (entry_of-added p.own (new_entry p.name m.1) name k) (if has_made made i name then Some (new_entry p.name name) else None))
        ∙ joined (bytes_eq name m.1) refl (has_made made i name) (entry_of p.own name)
    by false e rest = rest p (slice_get-with_own-other ps i m.0 (added (own_at ps m.0) (new_entry (name_at ps m.0) m.1)) (λ q. true≢false (sym (eq-eqb i m.0 q) ∙ e)) ∙ h)

-- where there is no package, there is none later
pub own_at-with_made-none : (ps : List Package) (made : List (ℕ × List ℕ)) (i : ℕ) → slice_get ps i ≡ None → own_at (with_made ps made) i ≡ []
own_at-with_made-none ps made i h = by (slice_get (with_made ps made) i) (map_or-with_made (λ p. true) false (λ p own. refl) ps made i ∙ (λ k. option_map_or (λ (p : Package). true) (h k) false))
  where
    by : (o : Option Package) → option_map_or (λ (p : Package). true) o false ≡ false → option_map_or (λ (p : Package). p.own) o [] ≡ []
    by None q = refl
    by (Some p) q = absurd (cc)

-- taking back the entry that was added last
pub shortened-with_own : (ps : List Package) (i : ℕ) (own : List Entry) → i < length ps → take (length own - 1) own ≡ own_at ps i → shortened (with_own ps i own) i ≡ ps
shortened-with_own ps i own h e =
    with_own-with_own ps i own (take (length (own_at (with_own ps i own) i) - 1) (own_at (with_own ps i own) i))
    ∙ (λ k. with_own ps i (take (length (own_at-with_own ps i own h k) - 1) (own_at-with_own ps i own h k)))
    ∙ ap (with_own ps i) e ∙ with_own-own_at ps i

-- the symbols made so far, and one more
pub with_made-take : (ps : List Package) (made : List (ℕ × List ℕ)) (n : ℕ) → with_made ps (take (suc n) made) ≡ with_made_at (with_made ps (take n made)) made n
with_made-take ps [] zero = refl
with_made-take ps [] (suc n) = refl
with_made-take ps (m ∷ made) zero = refl
with_made-take ps (m ∷ made) (suc n) = with_made-take (with_new ps m.0 m.1) made n

-- where there is no package, nothing is made
pub with_made_at-past : (ps : List Package) (made : List (ℕ × List ℕ)) (n i : ℕ) (name : List ℕ) → slice_get made n ≡ Some (i, name) → length ps ≤ i → with_made_at ps made n ≡ ps
with_made_at-past ps made n i name h past =
    (λ k. option_map_or (λ (m : ℕ × List ℕ). with_new ps m.0 m.1) (h k) ps) ∙ with_own-past ps i (added (own_at ps i) (new_entry (name_at ps i) name)) past

module _ (ps : List Package) (made : List (ℕ × List ℕ)) (i : ℕ) (name : List ℕ) where
  -- what is present, case by case
  pub present-absent : slice_get ps i ≡ None → entry_of (own_at (with_made ps made) i) name ≡ None
  present-absent h = ap (λ own. entry_of own name) (own_at-with_made-none ps made i h)

  pub present-own : (p : Package) (e : Entry) → slice_get ps i ≡ Some p → entry_of p.own name ≡ Some e → entry_of (own_at (with_made ps made) i) name ≡ Some e
  present-own p e h own = entry_of-with_made made ps i name p h ∙ (λ k. option_or (own k) (if has_made made i name then Some (new_entry p.name name) else None))

  pub present-none : (p : Package) → slice_get ps i ≡ Some p → entry_of p.own name ≡ None → has_made made i name ≡ false → entry_of (own_at (with_made ps made) i) name ≡ None
  present-none p h own has = entry_of-with_made made ps i name p h ∙ (λ k. option_or (own k) (if has k then Some (new_entry p.name name) else None))

  pub present-made : (p : Package) → slice_get ps i ≡ Some p → entry_of p.own name ≡ None → has_made made i name ≡ true → entry_of (own_at (with_made ps made) i) name ≡ Some (new_entry p.name name)
  present-made p h own has = entry_of-with_made made ps i name p h ∙ (λ k. option_or (own k) (if has k then Some (new_entry p.name name) else None))

  -- what isn't present wasn't made
  pub has_made-absent : (p : Package) → slice_get ps i ≡ Some p → entry_of (own_at (with_made ps made) i) name ≡ None → has_made made i name ≡ false
  has_made-absent p h none = by (entry_of p.own name) (has_made made i name) (sym (entry_of-with_made made ps i name p h) ∙ none)
    where
      by : (o : Option Entry) (b : Bool) → option_or o (if b then Some (new_entry p.name name) else None) ≡ None → b ≡ false
      by None true q = absurd (cc)
      by None false q = refl
      by (Some x) b q = absurd (cc)

  named_now : (p : Package) → slice_get ps i ≡ Some p → name_at (with_made ps made) i ≡ p.name
  named_now p h = name_at-with_made ps made i ∙ (λ k. option_map_or (λ (q : Package). q.name) (h k) [])

  -- a new symbol, or none in COMMON-LISP
  pub made_symbol-refused : (p : Package) → slice_get ps i ≡ Some p → bytes_eq p.name common_lisp ≡ true → made_symbol (with_made ps made) i name ≡ Err (NotExternal name p.name)
  made_symbol-refused p h same = (λ k. if bytes_eq (named_now p h k) common_lisp then Err (NotExternal name (named_now p h k)) else Ok (with_new (with_made ps made) i name, (new_entry (named_now p h k) name).symbol))
      ∙ (λ k. if same k then Err (NotExternal name p.name) else Ok (with_new (with_made ps made) i name, (new_entry p.name name).symbol))

  pub made_symbol-made : (p : Package) → slice_get ps i ≡ Some p → bytes_eq p.name common_lisp ≡ false → made_symbol (with_made ps made) i name ≡ Ok (with_made ps (made ++ (i, name) ∷ []), (new_entry p.name name).symbol)
  made_symbol-made p h other = (λ k. if bytes_eq (named_now p h k) common_lisp then Err (NotExternal name (named_now p h k)) else Ok (with_new (with_made ps made) i name, (new_entry (named_now p h k) name).symbol))
      ∙ (λ k. if other k then Err (NotExternal name p.name) else Ok (with_new (with_made ps made) i name, (new_entry p.name name).symbol))
      ∙ (λ k. Ok (sym (with_made-push ps made i name) k, (new_entry p.name name).symbol))

  pub external_named-refused : (p : Package) → slice_get ps i ≡ Some p → external_at (with_made ps made) i name ≡ None → external_named (with_made ps made) i name ≡ Err (NotExternal name p.name)
  external_named-refused p h none = (λ k. option_map_or (λ symbol. Ok (with_made ps made, symbol)) (none k) (Err (NotExternal name (named_now p h k))))

  -- what is accessible where nothing is present
  pub accessible-inherited : entry_of (own_at (with_made ps made) i) name ≡ None → accessible (with_made ps made) i name ≡ inherited (with_made ps made) (uses_at ps i) name
  accessible-inherited none = λ k. option_or (option_map (λ (entry : Entry). entry.symbol) (none k)) (inherited (with_made ps made) (uses_at-with_made ps made i k) name)

-- a package's name, once symbols are made
module _ {X : Type 0} (ps : List Package) (made : List (ℕ × List ℕ)) (text : List ℕ) (f : ℕ → Result X NameFault) where
  pub in_named-there : (i : ℕ) → place_of ps text ≡ Some i → in_named (with_made ps made) text f ≡ f i
  in_named-there i h = λ k. option_map_or f ((place_of-with_made ps made text ∙ h) k) (Err (NoPackage text))

  pub in_named-absent : place_of ps text ≡ None → in_named (with_made ps made) text f ≡ Err (NoPackage text)
  in_named-absent h = λ k. option_map_or f ((place_of-with_made ps made text ∙ h) k) (Err (NoPackage text))
