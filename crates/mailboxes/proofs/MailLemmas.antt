-- Mail in order of arrival, and what is taken out of it.
use Rattle.std.proofs.Common.{◌≡◌, ℕ, zero, suc, ◌+◌, ◌<◌, ◌≤◌, Bool, true, false, cond, List, [], ◌∷◌, ◌++◌, length, refl, sym, ap, ◌∙◌, arith}
use Rattle.std.specs.Prelude.{not, is_some, remove, position, slice_get, nat_lt, Option, Some, None, IfSome, IsTrue}
use Rattle.std.specs.List.{position_or_len}
use Rattle.std.proofs.Common.{inl, inr}
use Rattle.std.proofs.lemmas.Bool.{cases_lt, lt-ltb}
use Rattle.std.proofs.lemmas.List.Folds.{find_at}
use Rattle.rpc_messages.specs.Waiting.{accepted}
use Rattle.rpc_messages.specs.declared.from_emacs.FromEmacs.{FromEmacs}
use Rattle.rpc_messages.specs.declared.pattern.Pattern.{Pattern}
use Rattle.mailboxes.specs.Mail.{first_accepted, without_accepted, AllBefore, AllAfter, AreInOrder, NoneBefore}

-- ---- order

AllAfter-append : (at : ℕ) (mail : List (ℕ × FromEmacs)) (entry : ℕ × FromEmacs) → AllAfter at mail → at < entry.0 → AllAfter at (mail ++ entry ∷ [])
AllAfter-append at [] entry all later = (later, tt)
AllAfter-append at (first ∷ mail) entry all later = (all.0, AllAfter-append at mail entry all.1 later)

-- a message that came after all others stands behind them
pub AreInOrder-append : (mail : List (ℕ × FromEmacs)) (entry : ℕ × FromEmacs) → AreInOrder mail → AllBefore entry.0 mail → AreInOrder (mail ++ entry ∷ [])
AreInOrder-append [] entry ordered before = (tt, tt)
AreInOrder-append (first ∷ mail) entry ordered before = (AllAfter-append first.0 mail entry ordered.0 before.0, AreInOrder-append mail entry ordered.1 before.1)

-- ---- without the first accepted

AllAfter-without_at : (p : Pattern) (at : ℕ) (entry : ℕ × FromEmacs) (mail : List (ℕ × FromEmacs)) (taken : Bool) → AllAfter at (without_accepted p mail) → AllAfter at (entry ∷ mail)
    → AllAfter at (cond taken mail (entry ∷ without_accepted p mail))
AllAfter-without_at p at entry mail true later all = all.1
AllAfter-without_at p at entry mail false later all = (all.0, later)

AllAfter-without : (p : Pattern) (at : ℕ) (mail : List (ℕ × FromEmacs)) → AllAfter at mail → AllAfter at (without_accepted p mail)
AllAfter-without p at [] all = tt
AllAfter-without p at (entry ∷ mail) all = AllAfter-without_at p at entry mail (accepted p entry.1) (AllAfter-without p at mail all.1) all

AreInOrder-without_at : (p : Pattern) (entry : ℕ × FromEmacs) (mail : List (ℕ × FromEmacs)) (taken : Bool) → AreInOrder (without_accepted p mail) → AreInOrder (entry ∷ mail)
    → AreInOrder (cond taken mail (entry ∷ without_accepted p mail))
AreInOrder-without_at p entry mail true later ordered = ordered.1
AreInOrder-without_at p entry mail false later ordered = (AllAfter-without p entry.0 mail ordered.0, later)

-- the others stay in order
pub AreInOrder-without : (p : Pattern) (mail : List (ℕ × FromEmacs)) → AreInOrder mail → AreInOrder (without_accepted p mail)
AreInOrder-without p [] ordered = tt
AreInOrder-without p (entry ∷ mail) ordered = AreInOrder-without_at p entry mail (accepted p entry.1) (AreInOrder-without p mail ordered.1) ordered

-- ---- the place of the first accepted

remove-cons : {X : Type 0} (x : X) (xs : List X) (m n : ℕ) → m ≡ suc n → remove (x ∷ xs) m ≡ x ∷ remove xs n
remove-cons x xs m n e = rw e refl

without-remove_at : (p : Pattern) (entry : ℕ × FromEmacs) (mail : List (ℕ × FromEmacs)) (taken : Bool) (n : ℕ) → without_accepted p mail ≡ remove mail n
    → cond taken mail (entry ∷ without_accepted p mail) ≡ remove (entry ∷ mail) (cond (not taken) (1 + n) 0)
without-remove_at p entry mail true n e = refl
without-remove_at p entry mail false n e = ap (λ xs. entry ∷ xs) e ∙ sym (remove-cons entry mail (1 + n) n (omega arith))

-- what is left without the message at the first place that is accepted
without-remove : (p : Pattern) (mail : List (ℕ × FromEmacs)) → without_accepted p mail ≡ remove mail (position_or_len (λ entry. accepted p entry.1) mail)
without-remove p [] = refl
without-remove p (entry ∷ mail) = without-remove_at p entry mail (accepted p entry.1) (position_or_len (λ e. accepted p e.1) mail) (without-remove p mail)

-- nothing is accepted
record Untouched (p : Pattern) (mail : List (ℕ × FromEmacs)) : Type 0 where
  pub found : first_accepted p mail ≡ None
  pub rest : without_accepted p mail ≡ mail

untouched_at : (p : Pattern) (entry : ℕ × FromEmacs) (mail : List (ℕ × FromEmacs)) (taken : Bool) (n : ℕ) → (length mail ≤ n → Untouched p mail) → suc (length mail) ≤ cond (not taken) (1 + n) 0
    → (cond taken (Some entry) (first_accepted p mail) ≡ None) × (cond taken mail (entry ∷ without_accepted p mail) ≡ entry ∷ mail)
untouched_at p entry mail true n later long = absurd (omega arith)
untouched_at p entry mail false n later long = let u = later (omega arith) in (u.found, ap (λ xs. entry ∷ xs) u.rest)

untouched : (p : Pattern) (mail : List (ℕ × FromEmacs)) → length mail ≤ position_or_len (λ entry. accepted p entry.1) mail → Untouched p mail
untouched p [] long = record { found = refl; rest = refl }
untouched p (entry ∷ mail) long =
    let u = untouched_at p entry mail (accepted p entry.1) (position_or_len (λ e. accepted p e.1) mail) (untouched p mail) long in
    record { found = u.0; rest = u.1 }

guard_some : (b : Bool) (n i : ℕ) → cond b (Some n) None ≡ Some i → n ≡ i
guard_some true n i e = cc
guard_some false n i e = absurd (cc)

guard_none : (b : Bool) (n : ℕ) → cond b (Some n) None ≡ None → b ≡ false
guard_none true n e = absurd (cc)
guard_none false n e = refl

not_below : (n m : ℕ) → nat_lt n m ≡ false → m ≤ n
not_below n m e = elim (cases_lt n m) [ inl less ↦ absurd (let f = lt-ltb n m less in let h : true ≡ false = sym f ∙ e in cc) | inr above ↦ above ]

none_at : (p : Pattern) (mail : List (ℕ × FromEmacs)) → position (λ entry. accepted p entry.1) mail ≡ None → Untouched p mail
none_at p mail e = untouched p mail (not_below _ _ (guard_none _ _ e))

pub none-found : (p : Pattern) (mail : List (ℕ × FromEmacs)) → position (λ entry. accepted p entry.1) mail ≡ None → first_accepted p mail ≡ None
none-found p mail e = (none_at p mail e).found

pub none-rest : (p : Pattern) (mail : List (ℕ × FromEmacs)) → position (λ entry. accepted p entry.1) mail ≡ None → without_accepted p mail ≡ mail
none-rest p mail e = (none_at p mail e).rest

pub some-found : (p : Pattern) (mail : List (ℕ × FromEmacs)) (at : ℕ) → position (λ entry. accepted p entry.1) mail ≡ Some at → first_accepted p mail ≡ slice_get mail at
some-found p mail at e = find_at (λ entry. accepted p entry.1) mail ∙ ap (slice_get mail) (guard_some _ _ _ e)

pub some-rest : (p : Pattern) (mail : List (ℕ × FromEmacs)) (at : ℕ) → position (λ entry. accepted p entry.1) mail ≡ Some at → without_accepted p mail ≡ remove mail at
some-rest p mail at e = without-remove p mail ∙ ap (remove mail) (guard_some _ _ _ e)

-- ---- the first accepted

NoneBefore-after : (p : Pattern) (at : ℕ) (mail : List (ℕ × FromEmacs)) → AllAfter at mail → NoneBefore p at mail
NoneBefore-after p at [] all = tt
NoneBefore-after p at (entry ∷ mail) all = (λ _. let here = all.0 in omega arith, NoneBefore-after p at mail all.1)

no_fact : (b : Bool) → b ≡ false → IsTrue b → ⊥
no_fact true e t = absurd (cc)
no_fact false e t = let h : false ≡ true = t in absurd (cc)

first-least_at : (p : Pattern) (entry : ℕ × FromEmacs) (mail : List (ℕ × FromEmacs)) (is : Bool) (taken : Option (ℕ × FromEmacs)) → accepted p entry.1 ≡ is → AllAfter entry.0 mail
    → IfSome taken (λ t. NoneBefore p t.0 mail) → IfSome (cond is (Some entry) taken) (λ t. NoneBefore p t.0 (entry ∷ mail))
first-least_at p entry mail true taken e after later = (λ _. omega arith, NoneBefore-after p entry.0 mail after)
first-least_at p entry mail false None e after later = tt
first-least_at p entry mail false (Some t) e after later = (λ fact. absurd (no_fact (accepted p entry.1) e fact), later)

-- no accepted message came before the first in the list
pub first-least : (p : Pattern) (mail : List (ℕ × FromEmacs)) → AreInOrder mail → IfSome (first_accepted p mail) (λ taken. NoneBefore p taken.0 mail)
first-least p [] ordered = tt
first-least p (entry ∷ mail) ordered = first-least_at p entry mail (accepted p entry.1) (first_accepted p mail) refl ordered.0 (first-least p mail ordered.1)

-- ---- whether one is accepted

is_some_within : {X : Type 0} (xs : List X) (i : ℕ) → i < length xs → is_some (slice_get xs i) ≡ true
is_some_within [] i h = absurd (omega (arith, h))
is_some_within (x ∷ xs) zero h = refl
is_some_within (x ∷ xs) (suc i) h = is_some_within xs i (omega (arith, h))

-- a message is accepted where one has a place
pub is_accepted : (p : Pattern) (mail : List (ℕ × FromEmacs)) (o : Option ℕ) → position (λ entry. accepted p entry.1) mail ≡ o → IfSome o (λ at. at < length mail)
    → is_some o ≡ is_some (first_accepted p mail)
is_accepted p mail None e within = ap is_some (sym (none-found p mail e))
is_accepted p mail (Some at) e within = sym (ap is_some (some-found p mail at e) ∙ is_some_within mail at within)
