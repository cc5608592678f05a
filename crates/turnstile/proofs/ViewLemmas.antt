-- The list of views, as one of them changes or one is added.
use Rattle.std.proofs.Common.{◌≡◌, ◌⊎◌, inl, inr, ℕ, zero, suc, ◌+◌, ◌≤◌, ◌≢◌, List, [], ◌∷◌, ◌++◌, length, set, Bool, true, false, true≢false, sym, refl, ap, ◌∙◌, subst, ⊎_elim, arith}
use mathlib.Core.Option.{some, some-injective, some-ne-none}
use lib.ListN.{get_elem?}
use Rattle.atomic_table.proofs.Lists.{at_set}
use Rattle.turnstile.specs.declared.view.View.{View}
use Rattle.turnstile.specs.Rule.{one, live_count, AreApart}

pub not_true : (b : Bool) → (b ≡ true → ⊥) → b ≡ false
not_true true h = absurd (h refl)
not_true false h = refl

pub off : false ≡ true → ⊥
off e = true≢false (sym e)

module _ {A : Type 0} where
  pub set_at : (l : List A) (i : ℕ) (a b : A) → get_elem? l i ≡ some a → get_elem? (set l i b) i ≡ some b
  set_at [] i a b e = absurd (some-ne-none a (sym e))
  set_at (x ∷ xs) zero a b e = refl
  set_at (x ∷ xs) (suc i) a b e = set_at xs i a b e

  at_end : (l : List A) (a b : A) (j : ℕ) → get_elem? (l ++ a ∷ []) j ≡ some b → (get_elem? l j ≡ some b) ⊎ ((j ≡ length l) × (a ≡ b))
  at_end [] a b zero e = inr (refl, some-injective a b e)
  at_end [] a b (suc j) e = absurd (some-ne-none b (sym e))
  at_end (x ∷ xs) a b zero e = inl e
  at_end (x ∷ xs) a b (suc j) e = ⊎_elim (λ h. inl h) (λ t. inr (ap suc t.0, t.1)) (at_end xs a b j e)

module _ {E : Type 0} where
  pub live_count-set : (vs : List (View E)) (i : ℕ) (v w : View E) → get_elem? vs i ≡ some v → live_count (set vs i w) + one v.is_live ≡ live_count vs + one w.is_live
  live_count-set [] i v w e = absurd (some-ne-none v (sym e))
  live_count-set (x ∷ vs) zero v w e = let same : one x.is_live ≡ one v.is_live = ap (λ (u : View E). one u.is_live) (some-injective x v e) in omega arith
  live_count-set (x ∷ vs) (suc i) v w e = let r = live_count-set vs i v w e in omega arith

  pub live_count-set_live : (vs : List (View E)) (i : ℕ) (v w : View E) → get_elem? vs i ≡ some v → v.is_live ≡ true → w.is_live ≡ true → live_count (set vs i w) ≡ live_count vs
  live_count-set_live vs i v w e a b = let r = live_count-set vs i v w e in let x = ap one a in let y = ap one b in omega arith

  pub live_count-push : (vs : List (View E)) (w : View E) → live_count (vs ++ w ∷ []) ≡ live_count vs + one w.is_live
  live_count-push [] w = omega arith
  live_count-push (x ∷ vs) w = let r = live_count-push vs w in omega arith

  pub one_live : (vs : List (View E)) (i : ℕ) (v : View E) → get_elem? vs i ≡ some v → v.is_live ≡ true → 1 ≤ live_count vs
  one_live [] i v e l = absurd (some-ne-none v (sym e))
  one_live (x ∷ vs) zero v e l = let same = ap (λ (u : View E). one u.is_live) (some-injective x v e) ∙ ap one l in omega arith
  one_live (x ∷ vs) (suc i) v e l = let r = one_live vs i v e l in omega arith

  pub two_live : (vs : List (View E)) (i j : ℕ) (v w : View E) → get_elem? vs i ≡ some v → get_elem? vs j ≡ some w → i ≢ j → v.is_live ≡ true → w.is_live ≡ true → 2 ≤ live_count vs
  two_live [] i j v w e f ne a b = absurd (some-ne-none v (sym e))
  two_live (x ∷ vs) zero zero v w e f ne a b = absurd (ne refl)
  two_live (x ∷ vs) zero (suc j) v w e f ne a b = let same = ap (λ (u : View E). one u.is_live) (some-injective x v e) ∙ ap one a in let r = one_live vs j w f b in omega arith
  two_live (x ∷ vs) (suc i) zero v w e f ne a b = let same = ap (λ (u : View E). one u.is_live) (some-injective x w f) ∙ ap one b in let r = one_live vs i v e a in omega arith
  two_live (x ∷ vs) (suc i) (suc j) v w e f ne a b = let r = two_live vs i j v w e f (λ h. ne (ap suc h)) a b in omega arith

  abbrev pub IsSameSeat : View E → View E → Type 0
  IsSameSeat v w = (w.number ≡ v.number) × (w.made ≡ v.made) × (w.joined ≡ v.joined) × (w.is_live ≡ v.is_live)

  -- after a seat's view changed, the first seat is the same seat
  pub same_first : (vs : List (View E)) (i : ℕ) (v w first : View E) → get_elem? vs i ≡ some v → get_elem? vs 0 ≡ some first → IsSameSeat v w → (f : View E) × (get_elem? (set vs i w) 0 ≡ some f) × IsSameSeat first f
  same_first [] i v w first e e0 same = absurd (some-ne-none v (sym e))
  same_first (x ∷ vs) zero v w first e e0 same = (w, refl, subst (λ (u : View E). IsSameSeat u w) (sym (some-injective x v e) ∙ some-injective x first e0) same)
  same_first (x ∷ vs) (suc i) v w first e e0 same = (first, e0, (refl, refl, refl, refl))

  -- a fact of every seat, after the view of one changed
  pub each_set : (K : ℕ → View E → Type 0) (vs : List (View E)) (me : ℕ) (w : View E) → K me w → ((j : ℕ) (d : View E) → j ≢ me → get_elem? vs j ≡ some d → K j d)
      → (j : ℕ) (d : View E) → get_elem? (set vs me w) j ≡ some d → K j d
  each_set K vs me w mine others j d e = ⊎_elim (λ (t : (j ≡ me) × (w ≡ d)). subst (λ (x : ℕ × View E). K x.0 x.1) (λ i. (sym t.0 i, t.1 i)) mine)
      (λ (t : (j ≢ me) × (get_elem? vs j ≡ some d)). others j d t.0 t.1) (at_set vs me j w d e)

  -- a fact of every seat, after one was added
  pub each_push : (K : ℕ → View E → Type 0) (vs : List (View E)) (w : View E) → K (length vs) w → ((j : ℕ) (d : View E) → get_elem? vs j ≡ some d → K j d)
      → (j : ℕ) (d : View E) → get_elem? (vs ++ w ∷ []) j ≡ some d → K j d
  each_push K vs w mine others j d e = ⊎_elim (λ (t : get_elem? vs j ≡ some d). others j d t)
      (λ (t : (j ≡ length vs) × (w ≡ d)). subst (λ (x : ℕ × View E). K x.0 x.1) (λ i. (sym t.0 i, t.1 i)) mine) (at_end vs w d j e)

  abbrev pub AllApart : List (View E) → Type 0
  AllApart vs = (i j : ℕ) (v w : View E) → get_elem? vs i ≡ some v → get_elem? vs j ≡ some w → i ≢ j → AreApart v w

  pub apart_set : (vs : List (View E)) (me : ℕ) (w : View E) → AllApart vs → ((j : ℕ) (d : View E) → j ≢ me → get_elem? vs j ≡ some d → AreApart w d × AreApart d w) → AllApart (set vs me w)
  apart_set vs me w was new i j a b ai bj = each_set (λ k x. k ≢ j → AreApart x b) vs me w
      (each_set (λ k x. me ≢ k → AreApart w x) vs me w (λ no. absurd (no refl)) (λ k d nk at _. (new k d nk at).0) j b bj)
      (λ k d nk at. each_set (λ l x. k ≢ l → AreApart d x) vs me w (λ _. (new k d nk at).1) (λ l x nl at' kl. was k l d x at at' kl) j b bj)
      i a ai

  pub apart_push : (vs : List (View E)) (w : View E) → AllApart vs → ((j : ℕ) (d : View E) → get_elem? vs j ≡ some d → AreApart w d × AreApart d w) → AllApart (vs ++ w ∷ [])
  apart_push vs w was new i j a b ai bj = each_push (λ k x. k ≢ j → AreApart x b) vs w
      (each_push (λ k x. length vs ≢ k → AreApart w x) vs w (λ no. absurd (no refl)) (λ k d at _. (new k d at).0) j b bj)
      (λ k d at. each_push (λ l x. k ≢ l → AreApart d x) vs w (λ _. (new k d at).1) (λ l x at' kl. was k l d x at at' kl) j b bj)
      i a ai

  -- no seat but this one has the turn
  abbrev pub OthersWait : List (View E) → ℕ → Type 0
  OthersWait vs me = (j : ℕ) (d : View E) → j ≢ me → get_elem? vs j ≡ some d → d.is_live ≡ true → d.has_turn ≡ true → ⊥

  pub others_wait : (vs : List (View E)) (me : ℕ) (v : View E) → AllApart vs → get_elem? vs me ≡ some v → v.is_live ≡ true → v.has_turn ≡ true → OthersWait vs me
  others_wait vs me v apart at live turn j d ne at' live' turn' = true≢false (sym turn' ∙ (apart me j v d at at' (λ e. ne (sym e)) live live').0 turn)
