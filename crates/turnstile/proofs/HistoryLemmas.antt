-- Entries by number, and histories that go on.
use Rattle.std.proofs.Common.{◌≡◌, ℕ, eqb, ◌<◌, ◌≤◌, ◌≢◌, List, [], ◌∷◌, ◌++◌, cond, sym, refl, ap, ◌∙◌, arith, ne_eqb}
use Rattle.std.specs.List.{AllByRecursion}
use Rattle.std.proofs.lemmas.List.{append_assoc, append-nil}
use Rattle.std.proofs.lemmas.List.Elements.{filter-append}
use Rattle.turnstile.specs.declared.view.Account.{Account}
use Rattle.turnstile.specs.History.{own, Covers}

module _ {A : Type 0} where
  pub all_weaker : (P Q : A → Type 0) → ((x : A) → P x → Q x) → (xs : List A) → AllByRecursion P xs → AllByRecursion Q xs
  all_weaker P Q f [] h = h
  all_weaker P Q f (x ∷ xs) h = (f x h.0, all_weaker P Q f xs h.1)

  pub all_both : (P Q R : A → Type 0) → ((x : A) → P x → Q x → R x) → (xs : List A) → AllByRecursion P xs → AllByRecursion Q xs → AllByRecursion R xs
  all_both P Q R f [] h k = h
  all_both P Q R f (x ∷ xs) h k = (f x h.0 k.0, all_both P Q R f xs h.1 k.1)

  pub all_append : (P : A → Type 0) → (xs ys : List A) → AllByRecursion P xs → AllByRecursion P ys → AllByRecursion P (xs ++ ys)
  all_append P [] ys h k = k
  all_append P (x ∷ xs) ys h k = (h.0, all_append P xs ys h.1 k)

  pub all_left : (P : A → Type 0) → (xs ys : List A) → AllByRecursion P (xs ++ ys) → AllByRecursion P xs
  all_left P [] ys h = tt
  all_left P (x ∷ xs) ys h = (h.0, all_left P xs ys h.1)

module _ {E : Type 0} (number_of : E → ℕ) where
  -- entries that all carry one number are none of another's
  pub own_none : (n m : ℕ) (xs : List E) → m ≢ n → AllByRecursion (λ e. number_of e ≡ n) xs → own number_of m xs ≡ []
  own_none n m [] ne h = refl
  own_none n m (e ∷ xs) ne h = ap (λ b. cond b (e ∷ own number_of m xs) (own number_of m xs)) (ne_eqb (number_of e) m (λ is. ne (sym is ∙ h.0))) ∙ own_none n m xs ne h.1

  -- a number over all those that the entries carry has no entry
  pub own_over : (m k : ℕ) (xs : List E) → m < k → AllByRecursion (λ e. number_of e ≤ m) xs → own number_of k xs ≡ []
  own_over m k [] lt h = refl
  own_over m k (e ∷ xs) lt h = let le = h.0 in ap (λ b. cond b (e ∷ own number_of k xs) (own number_of k xs)) (ne_eqb (number_of e) k (λ is. omega arith)) ∙ own_over m k xs lt h.1

  -- entries of another number leave what an account covers as it was
  pub covers_more : (n : ℕ) (log rest : List E) (a : Account E) → a.number ≢ n → AllByRecursion (λ e. number_of e ≡ n) rest → Covers number_of log a → Covers number_of (log ++ rest) a
  covers_more n log rest a ne of c = (
    (c.0.0 ++ rest, sym (append_assoc a.seen c.0.0 rest) ∙ ap (λ l. l ++ rest) c.0.1),
    filter-append (λ e. eqb (number_of e) a.number) log rest ∙ (ap (λ l. own number_of a.number log ++ l) (own_none n a.number rest ne of) ∙ append-nil (own number_of a.number log) ∙ c.1),
  )

  -- who has seen the whole history covers it
  pub covers_whole : (n : ℕ) (log : List E) → Covers number_of log (record { number = n; seen = log })
  covers_whole n log = (([], append-nil log), refl)
