-- Workers that are taken out and put in front.
use Rattle.std.proofs.Common.{◌≡◌, ℕ, ◌+◌, ◌<◌, ◌≤◌, List, [], ◌∷◌, ◌++◌, reverse, ⊎_elim, refl, sym, ap, ◌∙◌, subst, arith, append-nil}
use Rattle.std.specs.Prelude.{if◌then◌else◌, not}
use Rattle.std.proofs.lemmas.Bool.{cases_eq, eq-eqb, ne_eqb}
use Rattle.std.proofs.lemmas.List.{reverse-append}
use Rattle.session_model.specs.Arriving.{workers_after, workers_without}
use Rattle.session_model.specs.World.{repl}
use Rattle.swank_core.specs.Workers.{AreDistinct, AreWorkers}

without_here : (t : ℕ) (ws : List ℕ) → workers_without t (t ∷ ws) ≡ workers_without t ws
without_here t ws = ap (λ b. if not b then t ∷ workers_without t ws else workers_without t ws) (eq-eqb t t refl)

without_other : (t u : ℕ) (ws : List ℕ) → (u ≡ t → ⊥) → workers_without t (u ∷ ws) ≡ u ∷ workers_without t ws
without_other t u ws ne = ap (λ b. if not b then u ∷ workers_without t ws else workers_without t ws) (ne_eqb u t ne)

-- taking one out twice is taking it out once
without_twice : (t : ℕ) (ws : List ℕ) → workers_without t (workers_without t ws) ≡ workers_without t ws
without_twice t [] = refl
without_twice t (u ∷ ws) =
    ⊎_elim
    (λ (e : u ≡ t).
    let here : workers_without t (u ∷ ws) ≡ workers_without t ws = ap (λ v. workers_without t (v ∷ ws)) e ∙ without_here t ws in
    ap (workers_without t) here ∙ without_twice t ws ∙ sym here)
    (λ (ne : u ≡ t → ⊥).
    ap (workers_without t) (without_other t u ws ne) ∙ without_other t u (workers_without t ws) ne
    ∙ ap (λ xs. u ∷ xs) (without_twice t ws) ∙ sym (without_other t u ws ne))
    (cases_eq u t)

without_swap : (t u : ℕ) (ws : List ℕ) → workers_without t (workers_without u ws) ≡ workers_without u (workers_without t ws)
without_swap t u [] = refl
without_swap t u (v ∷ ws) =
    ⊎_elim
    (λ (e : v ≡ u).
    let here : workers_without u (v ∷ ws) ≡ workers_without u ws = ap (λ x. workers_without u (x ∷ ws)) e ∙ without_here u ws in
    ⊎_elim
    (λ (f : v ≡ t).
    let there : workers_without t (v ∷ ws) ≡ workers_without t ws = ap (λ x. workers_without t (x ∷ ws)) f ∙ without_here t ws in
    ap (workers_without t) here ∙ without_swap t u ws ∙ ap (workers_without u) (sym there))
    (λ (nf : v ≡ t → ⊥).
    ap (workers_without t) here ∙ without_swap t u ws
    ∙ sym (ap (workers_without u) (without_other t v ws nf) ∙ ap (λ x. workers_without u (x ∷ workers_without t ws)) e ∙ without_here u (workers_without t ws)))
    (cases_eq v t))
    (λ (ne : v ≡ u → ⊥).
    ⊎_elim
    (λ (f : v ≡ t).
    let there : workers_without t (v ∷ ws) ≡ workers_without t ws = ap (λ x. workers_without t (x ∷ ws)) f ∙ without_here t ws in
    ap (workers_without t) (without_other u v ws ne) ∙ ap (λ x. workers_without t (x ∷ workers_without u ws)) f ∙ without_here t (workers_without u ws)
    ∙ without_swap t u ws ∙ ap (workers_without u) (sym there))
    (λ (nf : v ≡ t → ⊥).
    ap (workers_without t) (without_other u v ws ne) ∙ without_other t v (workers_without u ws) nf
    ∙ ap (λ xs. v ∷ xs) (without_swap t u ws)
    ∙ sym (ap (workers_without u) (without_other t v ws nf) ∙ without_other u v (workers_without t ws) ne))
    (cases_eq v t))
    (cases_eq v u)

pub workers_less : (n t : ℕ) (ws : List ℕ) → AreWorkers n ws → AreWorkers n (workers_without t ws)
workers_less n t [] h = tt
workers_less n t (u ∷ ws) h =
    ⊎_elim
    (λ (e : u ≡ t). subst (AreWorkers n) (sym (ap (λ v. workers_without t (v ∷ ws)) e ∙ without_here t ws)) (workers_less n t ws h.2))
    (λ (ne : u ≡ t → ⊥).
    subst (AreWorkers n) (sym (without_other t u ws ne))
    (h.0, without_swap u t ws ∙ ap (workers_without t) h.1, workers_less n t ws h.2))
    (cases_eq u t)

pub workers_further : (n m : ℕ) (ws : List ℕ) → AreWorkers n ws → n ≤ m → AreWorkers m ws
workers_further n m [] h less = tt
workers_further n m (u ∷ ws) h less = (omega (arith, h.0, less), h.1, workers_further n m ws h.2 less)

-- no worker has a number that wasn't made yet
pub without_new : (n : ℕ) (ws : List ℕ) → AreWorkers n ws → workers_without n ws ≡ ws
without_new n [] h = refl
without_new n (u ∷ ws) h = without_other n u ws (λ e. absurd (omega (arith, e, h.0))) ∙ ap (λ xs. u ∷ xs) (without_new n ws h.2)

pub workers_new : (n : ℕ) (ws : List ℕ) → AreWorkers n ws → AreWorkers (n + 1) (n ∷ ws)
workers_new n ws h = (omega arith, without_new n ws h, workers_further n (n + 1) ws h (omega arith))

-- a live worker comes in front
pub workers_front : (n t : ℕ) (ws : List ℕ) → t < n → AreWorkers n ws → AreWorkers n (t ∷ workers_without t ws)
workers_front n t ws less h = (less, without_twice t ws, workers_less n t ws h)

pub after_repl : (t : ℕ) (ws : List ℕ) → t ≡ repl → workers_after t ws ≡ ws
after_repl t ws e = ap (λ b. if b then ws else t ∷ workers_without t ws) (eq-eqb t repl e)

pub after_other : (t : ℕ) (ws : List ℕ) → (t ≡ repl → ⊥) → workers_after t ws ≡ t ∷ workers_without t ws
after_other t ws ne = ap (λ b. if b then ws else t ∷ workers_without t ws) (ne_eqb t repl ne)

pub workers_routed : (n t : ℕ) (ws : List ℕ) → t < n → AreWorkers n ws → AreWorkers n (workers_after t ws)
workers_routed n t ws less h =
    ⊎_elim
    (λ (e : t ≡ repl). subst (AreWorkers n) (sym (after_repl t ws e)) h)
    (λ (ne : t ≡ repl → ⊥). subst (AreWorkers n) (sym (after_other t ws ne)) (workers_front n t ws less h))
    (cases_eq t repl)

without_append : (t : ℕ) (xs ys : List ℕ) → workers_without t (xs ++ ys) ≡ workers_without t xs ++ workers_without t ys
without_append t [] ys = refl
without_append t (u ∷ xs) ys =
    ⊎_elim
    (λ (e : u ≡ t).
    ap (λ v. workers_without t (v ∷ (xs ++ ys))) e ∙ without_here t (xs ++ ys) ∙ without_append t xs ys
    ∙ ap (λ zs. zs ++ workers_without t ys) (sym (ap (λ v. workers_without t (v ∷ xs)) e ∙ without_here t xs)))
    (λ (ne : u ≡ t → ⊥).
    without_other t u (xs ++ ys) ne ∙ ap (λ zs. u ∷ zs) (without_append t xs ys)
    ∙ ap (λ zs. zs ++ workers_without t ys) (sym (without_other t u xs ne)))
    (cases_eq u t)

reverse-cons : (x : ℕ) (xs : List ℕ) → reverse (x ∷ xs) ≡ reverse xs ++ x ∷ []
reverse-cons x xs = reverse-append (x ∷ []) xs

-- the list that is kept is in the other order
pub reverse-without : (t : ℕ) (xs : List ℕ) → reverse (workers_without t xs) ≡ workers_without t (reverse xs)
reverse-without t [] = refl
reverse-without t (u ∷ xs) =
    ⊎_elim
    (λ (e : u ≡ t).
    ap reverse (ap (λ v. workers_without t (v ∷ xs)) e ∙ without_here t xs) ∙ reverse-without t xs
    ∙ sym (append-nil (workers_without t (reverse xs)))
    ∙ ap (λ zs. workers_without t (reverse xs) ++ zs) (sym (ap (λ v. workers_without t (v ∷ [])) e ∙ without_here t []))
    ∙ sym (ap (workers_without t) (reverse-cons u xs) ∙ without_append t (reverse xs) (u ∷ [])))
    (λ (ne : u ≡ t → ⊥).
    ap reverse (without_other t u xs ne) ∙ reverse-cons u (workers_without t xs)
    ∙ ap (λ zs. zs ++ u ∷ []) (reverse-without t xs)
    ∙ ap (λ zs. workers_without t (reverse xs) ++ zs) (sym (without_other t u [] ne))
    ∙ sym (ap (workers_without t) (reverse-cons u xs) ∙ without_append t (reverse xs) (u ∷ [])))
    (cases_eq u t)

pub are_distinct : (n : ℕ) (ws : List ℕ) → AreWorkers n ws → AreDistinct ws
are_distinct n [] h = tt
are_distinct n (t ∷ ws) h = (h.1, are_distinct n ws h.2)

-- the one that is in front stays there, and the one of the REPL is none of them
pub distinct_front : (t : ℕ) (ws : List ℕ) → (t ≡ repl → ⊥) → AreDistinct (t ∷ ws) → workers_after t (t ∷ ws) ≡ t ∷ ws
distinct_front t ws ne h = after_other t (t ∷ ws) ne ∙ ap (λ xs. t ∷ xs) (without_here t ws ∙ h.0)

pub reverse_pushed : (t : ℕ) (xs : List ℕ) → reverse (xs ++ t ∷ []) ≡ t ∷ reverse xs
reverse_pushed t xs = reverse-append xs (t ∷ [])

-- a new worker comes to the end of the list that is kept
pub new_pushed : (n len t : ℕ) (xs ys : List ℕ) → AreWorkers n (reverse xs) → ys ≡ xs ++ t ∷ [] → t ≡ n → len ≡ n + 1 → AreWorkers len (reverse ys)
new_pushed n len t xs ys h is same long =
    subst (AreWorkers len) (sym (ap reverse is ∙ reverse_pushed t xs ∙ ap (λ u. u ∷ reverse xs) same))
    (subst (λ m. AreWorkers m (n ∷ reverse xs)) (sym long) (workers_new n (reverse xs) h))
