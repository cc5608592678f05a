-- Items of lists, and of mail in order of arrival.
use Rattle.std.proofs.Common.{◌≡◌, ℕ, ◌<◌, ◌≤◌, ◌≢◌, ◌⊎◌, inl, inr, Bool, true, false, List, [], ◌∷◌, ◌++◌, Some, refl, sym, ap, ◌∙◌, subst, arith}
use Rattle.std.specs.Prelude.{if◌then◌else◌}
use Rattle.mailboxes.specs.Mail.{AllAfter, AllBefore, AreInOrder, first_accepted, without_accepted}
use Rattle.rpc_messages.specs.declared.from_emacs.FromEmacs.{FromEmacs}
use Rattle.rpc_messages.specs.declared.pattern.Pattern.{Pattern}
use Rattle.rpc_messages.specs.Waiting.{accepted}
use Rattle.step_model.specs.Now.{Mailbox}
use Rattle.session_laws.specs.TakesInOrder.{Among}
use Rattle.session_laws.proofs.SomeLemmas.{none≢some, some_is}

pub among-left : {X : Type 0} (x : X) (a b : List X) → Among x a → Among x (a ++ b)
among-left x [] b h = absurd h
among-left x (y ∷ a) b (inl e) = inl e
among-left x (y ∷ a) b (inr h) = inr (among-left x a b h)

pub among-right : {X : Type 0} (x : X) (a b : List X) → Among x b → Among x (a ++ b)
among-right x [] b h = h
among-right x (y ∷ a) b h = inr (among-right x a b h)

pub among-either : {X : Type 0} (x : X) (a b : List X) → Among x (a ++ b) → Among x a ⊎ Among x b
among-either x [] b h = inr h
among-either x (y ∷ a) b (inl e) = inl (inl e)
among-either x (y ∷ a) b (inr h) = further (among-either x a b h)
  where
    further : Among x a ⊎ Among x b → Among x (y ∷ a) ⊎ Among x b
    further (inl h) = inl (inr h)
    further (inr h) = inr h

-- ---- what a pattern finds first

true≢false : true ≡ false → ⊥
true≢false e = absurd (cc)

-- it is in the mail, and is accepted
pub first_among : (p : Pattern) (mb : Mailbox) (m : ℕ × FromEmacs) → first_accepted p mb ≡ Some m → Among m mb
first_among p [] m e = absurd (none≢some e)
first_among p (n ∷ mb) m e = by_test (accepted p n.1) e (first_among p mb m)
  where
    by_test : (b : Bool) → (if b then Some n else first_accepted p mb) ≡ Some m → (first_accepted p mb ≡ Some m → Among m mb) → Among m (n ∷ mb)
    by_test true e go = inl (sym (some_is e))
    by_test false e go = inr (go e)

pub first_is_accepted : (p : Pattern) (mb : Mailbox) (m : ℕ × FromEmacs) → first_accepted p mb ≡ Some m → accepted p m.1 ≡ true
first_is_accepted p [] m e = absurd (none≢some e)
first_is_accepted p (n ∷ mb) m e = by_test (accepted p n.1) refl e (first_is_accepted p mb m)
  where
    by_test : (b : Bool) → accepted p n.1 ≡ b → (if b then Some n else first_accepted p mb) ≡ Some m → (first_accepted p mb ≡ Some m → accepted p m.1 ≡ true) → accepted p m.1 ≡ true
    by_test true is e go = ap (λ (x : ℕ × FromEmacs). accepted p x.1) (sym (some_is e)) ∙ is
    by_test false is e go = go e

after_all : (at : ℕ) (mb : Mailbox) (m : ℕ × FromEmacs) → AllAfter at mb → Among m mb → at < m.0
after_all at [] m h a = absurd a
after_all at (n ∷ mb) m h (inl e) = subst (λ (x : ℕ × FromEmacs). at < x.0) (sym e) h.0
after_all at (n ∷ mb) m h (inr a) = after_all at mb m h.1 a

-- no accepted message in order of arrival came before it
pub first_least : (p : Pattern) (mb : Mailbox) (m n : ℕ × FromEmacs) → AreInOrder mb → first_accepted p mb ≡ Some m → Among n mb → accepted p n.1 ≡ true → m.0 ≤ n.0
first_least p [] m n ordered e a is = absurd a
first_least p (x ∷ mb) m n ordered e a is = by_test (accepted p x.1) refl e a (λ f b. first_least p mb m n ordered.1 f b is)
  where
    by_test : (b : Bool) → accepted p x.1 ≡ b → (if b then Some x else first_accepted p mb) ≡ Some m → Among n (x ∷ mb) → (first_accepted p mb ≡ Some m → Among n mb → m.0 ≤ n.0) → m.0 ≤ n.0
    by_test true test e (inl same) go = omega (arith, ap (λ (y : ℕ × FromEmacs). y.0) (some_is e), ap (λ (y : ℕ × FromEmacs). y.0) same)
    by_test true test e (inr a) go = omega (arith, ap (λ (y : ℕ × FromEmacs). y.0) (some_is e), after_all x.0 mb n ordered.0 a)
    by_test false test e (inl same) go = absurd (true≢false (sym is ∙ ap (λ (y : ℕ × FromEmacs). accepted p y.1) same ∙ test))
    by_test false test e (inr a) go = go e a

-- ---- without it

pub without_among : (p : Pattern) (mb : Mailbox) (n : ℕ × FromEmacs) → Among n (without_accepted p mb) → Among n mb
without_among p [] n a = absurd a
without_among p (x ∷ mb) n a = by_test (accepted p x.1) a (without_among p mb n)
  where
    by_test : (b : Bool) → Among n (if b then mb else x ∷ without_accepted p mb) → (Among n (without_accepted p mb) → Among n mb) → Among n (x ∷ mb)
    by_test true a go = inr a
    by_test false (inl e) go = inl e
    by_test false (inr a) go = inr (go a)

-- it is gone
pub without_differs : (p : Pattern) (mb : Mailbox) (m n : ℕ × FromEmacs) → AreInOrder mb → first_accepted p mb ≡ Some m → Among n (without_accepted p mb) → m.0 ≢ n.0
without_differs p [] m n ordered e a = absurd a
without_differs p (x ∷ mb) m n ordered e a = by_test (accepted p x.1) e a (λ f b. without_differs p mb m n ordered.1 f b)
  where
    by_test : (b : Bool) → (if b then Some x else first_accepted p mb) ≡ Some m → Among n (if b then mb else x ∷ without_accepted p mb) → (first_accepted p mb ≡ Some m → Among n (without_accepted p mb) → m.0 ≢ n.0) → m.0 ≢ n.0
    by_test true e a go same = absurd (omega (arith, ap (λ (y : ℕ × FromEmacs). y.0) (some_is e), after_all x.0 mb n ordered.0 a, same))
    by_test false e (inl is) go same = absurd (omega (arith, after_all x.0 mb m ordered.0 (first_among p mb m e), ap (λ (y : ℕ × FromEmacs). y.0) is, same))
    by_test false e (inr a) go same = go e a same

-- and nothing else is
pub among_without : (p : Pattern) (mb : Mailbox) (m n : ℕ × FromEmacs) → first_accepted p mb ≡ Some m → Among n mb → m.0 ≢ n.0 → Among n (without_accepted p mb)
among_without p [] m n e a ne = absurd a
among_without p (x ∷ mb) m n e a ne = by_test (accepted p x.1) e a (λ f b. among_without p mb m n f b ne)
  where
    by_test : (b : Bool) → (if b then Some x else first_accepted p mb) ≡ Some m → Among n (x ∷ mb) → (first_accepted p mb ≡ Some m → Among n mb → Among n (without_accepted p mb)) → Among n (if b then mb else x ∷ without_accepted p mb)
    by_test true e (inl same) go = absurd (ne (ap (λ (y : ℕ × FromEmacs). y.0) (sym (some_is e) ∙ sym same)))
    by_test true e (inr a) go = a
    by_test false e (inl same) go = inl same
    by_test false e (inr a) go = inr (go e a)

-- mail that all came before a place
pub all_before : (at : ℕ) (mb : Mailbox) → ((n : ℕ × FromEmacs) → Among n mb → n.0 < at) → AllBefore at mb
all_before at [] h = tt
all_before at (n ∷ mb) h = (h n (inl refl), all_before at mb (λ m a. h m (inr a)))
