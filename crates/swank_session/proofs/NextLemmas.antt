-- The thread that comes next.
use Rattle.std.proofs.Common.{◌≡◌, ℕ, zero, suc, ◌+◌, ◌-◌, ◌≤◌, Bool, true, false, List, [], ◌∷◌, ◌++◌, length, Option, Some, None, refl, sym, ap, ◌∙◌, arith}
use Rattle.std.specs.Prelude.{◌&&◌, ◌||◌, not, if◌then◌else◌, find, is_some, slice_get}
use Rattle.std.specs.Option.{option_map_or}
use Rattle.session_model.specs.Legal.{IsLentTo, is_active, is_lent, is_lendable, is_ready, is_idle, are_idle, is_quiet}
use Rattle.session_model.specs.Pipe.{in_order, next_ready, numbers}
use Rattle.session_model.specs.World.{Thread, World, thread_in, thread_at}
use Rattle.session_model.proofs.PipeLegal.{find_passes}
use Rattle.swank_core.specs.Session.{ready_above}
use Rattle.swank_session.proofs.RunLemmas.{StartsEmpty}

-- ---- searches

abbrev or-else : {X : Type 0} → Option X → Option X → Option X
or-else (Some x) o = Some x
or-else None o = o

module _ {X : Type 0} (p : X → Bool) where
  if-or : (b : Bool) (x : X) (a o : Option X) → (if b then Some x else or-else a o) ≡ or-else (if b then Some x else a) o
  if-or true x a o = refl
  if-or false x a o = refl

  find-append : (xs ys : List X) → find p (xs ++ ys) ≡ or-else (find p xs) (find p ys)
  find-append [] ys = refl
  find-append (x ∷ xs) ys = ap (λ o. if p x then Some x else o) (find-append xs ys) ∙ if-or (p x) x (find p xs) (find p ys)

or-none : {X : Type 0} (o : Option X) → or-else o None ≡ o
or-none (Some x) = refl
or-none None = refl

numbers-split : (a b t : ℕ) → numbers (a + b) t ≡ numbers a t ++ numbers b (t + a)
numbers-split zero b t = ap (λ n. numbers n t) (zero_plus b) ∙ ap (λ n. numbers b n) (plus_zero t)
  where
    zero_plus : (n : ℕ) → 0 + n ≡ n
    zero_plus n = omega arith

    plus_zero : (t : ℕ) → t ≡ t + 0
    plus_zero t = omega arith
numbers-split (suc a) b t = ap (λ n. numbers n t) (one_more a b) ∙ ap (λ (x : List ℕ). t ∷ x) (numbers-split a b (t + 1) ∙ ap (λ n. numbers a (t + 1) ++ numbers b n) (shift t a))
  where
    one_more : (a b : ℕ) → suc a + b ≡ suc (a + b)
    one_more a b = omega arith

    shift : (t a : ℕ) → t + 1 + a ≡ t + suc a
    shift t a = omega arith

-- ---- threads that aren't there

past-none : {X : Type 0} (xs : List X) (t : ℕ) → length xs ≤ t → slice_get xs t ≡ None
past-none [] t h = refl
past-none (x ∷ xs) zero h = absurd (omega (arith, h))
past-none (x ∷ xs) (suc t) h = past-none xs t (omega (arith, h))

and-false : (b : Bool) → (b && false) ≡ false
and-false true = refl
and-false false = refl

not-ready : (w : World) (t : ℕ) → thread_at w t ≡ None → is_ready w t ≡ false
not-ready w t none = ap (λ o. not w.closed && option_map_or is_lendable o false) none ∙ and-false (not w.closed)

past-ready : (w : World) (t : ℕ) → length w.threads ≤ t → is_ready w t ≡ false
past-ready w t h = not-ready w t (ap (λ o. option_map_or (λ thread. thread) o None) (past-none w.threads t h))

first-ready : (w : World) → StartsEmpty w.threads → is_ready w 0 ≡ false
first-ready w h = not-ready w 0 (empty-none w.threads h)
  where
    empty-none : (threads : List (Option Thread)) → StartsEmpty threads → thread_in threads 0 ≡ None
    empty-none (None ∷ threads) h = refl
    empty-none (Some x ∷ threads) h = absurd h
    empty-none [] h = absurd h

fail-if : (b : Bool) (x : ℕ) (o : Option ℕ) → b ≡ false → (if b then Some x else o) ≡ o
fail-if true x o e = absurd (cc)
fail-if false x o e = refl

past-numbers : (w : World) (n t : ℕ) → length w.threads ≤ t → find (is_ready w) (numbers n t) ≡ None
past-numbers w zero t h = refl
past-numbers w (suc n) t h = fail-if (is_ready w t) t (find (is_ready w) (numbers n (t + 1))) (past-ready w t h) ∙ past-numbers w n (t + 1) (omega (arith, h))

-- more numbers than there are threads find no more
enough : (w : World) (a b t : ℕ) → length w.threads ≤ t + a → find (is_ready w) (numbers (a + b) t) ≡ find (is_ready w) (numbers a t)
enough w a b t h =
    ap (λ xs. find (is_ready w) xs) (numbers-split a b t)
    ∙ find-append (is_ready w) (numbers a t) (numbers b (t + a))
    ∙ ap (λ o. or-else (find (is_ready w) (numbers a t)) o) (past-numbers w b (t + a) h)
    ∙ or-none (find (is_ready w) (numbers a t))

above : (w : World) (r : ℕ) → ready_above w r ≡ find (is_ready w) (numbers (length w.threads - (r + 1)) (r + 1))
above w r =
    let n : ℕ = length w.threads in
    ap (λ k. find (is_ready w) (numbers k (r + 1))) (parts n (r + 1)) ∙ enough w (n - (r + 1)) (n - (n - (r + 1))) (r + 1) (reaches n (r + 1))
  where
    parts : (n m : ℕ) → n ≡ n - m + (n - (n - m))
    parts n m = omega arith

    reaches : (n m : ℕ) → n ≤ m + (n - m)
    reaches n m = omega arith

from-first : (w : World) → StartsEmpty w.threads → find (is_ready w) (numbers (length w.threads) 0) ≡ ready_above w 0
from-first w h = by-length (length w.threads) refl
  where
    by-length : (n : ℕ) → length w.threads ≡ n → find (is_ready w) (numbers n 0) ≡ find (is_ready w) (numbers n 1)
    by-length zero e = refl
    by-length (suc n) e =
        fail-if (is_ready w 0) 0 (find (is_ready w) (numbers n 1)) (first-ready w h)
        ∙ sym (ap (λ k. find (is_ready w) (numbers k 1)) (one_more n) ∙ enough w n 1 1 (omega (arith, e)))
      where
        one_more : (n : ℕ) → suc n ≡ n + 1
        one_more n = omega arith

both-rounds : (w : World) (r : ℕ) → StartsEmpty w.threads → next_ready w r ≡ or-else (ready_above w r) (ready_above w 0)
both-rounds w r h =
    find-append (is_ready w) (numbers (length w.threads - (r + 1)) (r + 1)) (numbers (length w.threads) 0)
    ∙ ap (λ o. or-else o (find (is_ready w) (numbers (length w.threads) 0))) (sym (above w r))
    ∙ ap (λ o. or-else (ready_above w r) o) (from-first w h)

-- one that is ready in this round, or the first of the next round
pub next-found : (w : World) (r t : ℕ) → StartsEmpty w.threads → ready_above w r ≡ Some t → next_ready w r ≡ Some t
next-found w r t h e = both-rounds w r h ∙ ap (λ o. or-else o (ready_above w 0)) e

pub next-round : (w : World) (r : ℕ) → StartsEmpty w.threads → ready_above w r ≡ None → next_ready w r ≡ ready_above w 0
next-round w r h e = both-rounds w r h ∙ ap (λ o. or-else o (ready_above w 0)) e

pub next-ready : (w : World) (r t : ℕ) → next_ready w r ≡ Some t → is_ready w t ≡ true
next-ready w r t e = find_passes (is_ready w) (in_order r (length w.threads)) t e

-- ---- quiet

idle-not : (active lent : Bool) → not (active || lent) ≡ true → (active && not lent) ≡ false
idle-not true lent h = absurd (cc)
idle-not false lent h = refl

and-both : (a b : Bool) → (a && b) ≡ true → (a ≡ true) × (b ≡ true)
and-both true b e = (refl, e)
and-both false b e = absurd (cc)

idle-at : (threads : List (Option Thread)) (t : ℕ) → are_idle threads ≡ true → option_map_or is_lendable (thread_in threads t) false ≡ false
idle-at [] t h = refl
idle-at (None ∷ threads) zero h = refl
idle-at (Some x ∷ threads) zero h = idle-not (is_active x) (is_lent x) (and-both (is_idle (Some x)) (are_idle threads) h).0
idle-at (x ∷ threads) (suc t) h = idle-at threads t (and-both (is_idle x) (are_idle threads) h).1

quiet-not : (w : World) (t : ℕ) → is_quiet w ≡ true → is_ready w t ≡ false
quiet-not w t h = ap (λ b. not w.closed && b) (idle-at w.threads t h) ∙ and-false (not w.closed)

pub quiet-none : (w : World) (r : ℕ) → is_quiet w ≡ true → next_ready w r ≡ None
quiet-none w r h = all-fail (in_order r (length w.threads))
  where
    all-fail : (xs : List ℕ) → find (is_ready w) xs ≡ None
    all-fail [] = refl
    all-fail (x ∷ xs) = fail-if (is_ready w x) x (find (is_ready w) xs) (quiet-not w x h) ∙ all-fail xs

true-false : (b : Bool) → b ≡ true → b ≡ false → ⊥
true-false b e f = cc (e, f)

-- where a thread is ready, the session isn't quiet
pub ready-busy : (w : World) (t : ℕ) → is_ready w t ≡ true → is_quiet w ≡ false
ready-busy w t ready = by-quiet (is_quiet w) refl
  where
    by-quiet : (b : Bool) → is_quiet w ≡ b → b ≡ false
    by-quiet true e = absurd (true-false (is_ready w t) ready (quiet-not w t e))
    by-quiet false e = refl

-- so where one is lent
idle-free : (threads : List (Option Thread)) (t : ℕ) (thread : Thread) → are_idle threads ≡ true → thread_in threads t ≡ Some thread → is_lent thread ≡ false
idle-free [] t thread h e = absurd (cc)
idle-free (None ∷ threads) zero thread h e = absurd (cc)
idle-free (Some x ∷ threads) zero thread h e =
    ap is_lent (sym (some-is x thread e)) ∙ right-false (is_active x) (is_lent x) (and-both (is_idle (Some x)) (are_idle threads) h).0
  where
    some-is : (x y : Thread) → Some x ≡ Some y → x ≡ y
    some-is x y e = cc

    right-false : (a b : Bool) → not (a || b) ≡ true → b ≡ false
    right-false true b e = absurd (cc)
    right-false false true e = absurd (cc)
    right-false false false e = refl
idle-free (x ∷ threads) (suc t) thread h e = idle-free threads t thread (and-both (is_idle x) (are_idle threads) h).1 e

pub lent-busy : (w : World) (seat t : ℕ) → IsLentTo seat (thread_at w t) → is_quiet w ≡ false
lent-busy w seat t lent = by-thread (thread_at w t) refl lent
  where
    by-quiet : (thread : Thread) → thread_at w t ≡ Some thread → thread.lent ≡ Some seat → (b : Bool) → is_quiet w ≡ b → b ≡ false
    by-quiet thread e lent true q = absurd (true-false (is_lent thread) (ap (λ o. is_some o) lent) (idle-free w.threads t thread q e))
    by-quiet thread e lent false q = refl

    by-thread : (o : Option Thread) → thread_at w t ≡ o → IsLentTo seat o → is_quiet w ≡ false
    by-thread None e lent = absurd lent
    by-thread (Some thread) e lent = by-quiet thread e lent (is_quiet w) refl

-- a thread is ready only while the session is open
pub ready-open : (w : World) (t : ℕ) → is_ready w t ≡ true → w.closed ≡ false
ready-open w t h = not-left w.closed (option_map_or is_lendable (thread_at w t) false) h
  where
    not-left : (a b : Bool) → (not a && b) ≡ true → a ≡ false
    not-left true b e = absurd (cc)
    not-left false b e = refl

pub and-none : (a b : Bool) → b ≡ false → (a && b) ≡ false
and-none true b e = e
and-none false b e = refl
