-- Each move keeps the order of the mailbox.
use Rattle.std.proofs.Common.{◌≡◌, ℕ, ◌+◌, ◌<◌, ◌≤◌, ◌≢◌, ◌⊎◌, inl, inr, ◌&&◌, List, [], ◌∷◌, ◌++◌, length, Option, Some, None, refl, sym, ap, ◌∙◌, subst, append_assoc, append-nil, arith, length-append}
use Rattle.std.specs.Prelude.{◌==◌}
use Rattle.std.proofs.lemmas.Bool.Decides.{nat_tests}
use Rattle.mailboxes.proofs.MailLemmas.{AreInOrder-append, AreInOrder-without}
use Rattle.mailboxes.specs.Mail.{AreInOrder, first_accepted, without_accepted}
use Rattle.rpc_messages.specs.declared.from_emacs.FromEmacs.{FromEmacs}
use Rattle.rpc_messages.specs.declared.from_emacs.FromEmacs.TheVariants as mail
use Rattle.rpc_messages.specs.declared.pattern.Pattern.{Pattern}
use Rattle.rpc_messages.specs.declared.pattern.Pattern.TheVariants as pattern
use Rattle.rpc_messages.specs.declared.to_emacs.ToEmacs.TheVariants as message
use Rattle.term_model.specs.declared.question.Ask.TheVariants as question
use Rattle.term_model.specs.Label.{Label, Routed, Took, Refused, Out}
use Rattle.step_model.specs.Image.{ImageState}
use Rattle.step_model.specs.Marks.{Mark}
use Rattle.step_model.specs.Moves as move
use Rattle.step_model.specs.Moves.{Move, Fits, after, before, told}
use Rattle.step_model.specs.Now.{Mailbox}
use Rattle.step_model.specs.Rules.{Rules, Output, NewPackage}
use Rattle.session_model.specs.declared.event.Entry.{Entry}
use Rattle.session_model.specs.Journal.{labels}
use Rattle.session_laws.specs.Counting.{count, tally}
use Rattle.session_laws.specs.Seen.{Seen, Unborn, Alive, Gone}
use Rattle.session_laws.specs.TakesInOrder.{Among, IsLeast, TakesLeast, Waits, takes}
use Rattle.session_laws.proofs.Always.{IsLaw, always}
use Rattle.session_laws.proofs.Amongs.{all_before, among-either, among-left, among-right, among_without, first_among, first_is_accepted, first_least, without_among, without_differs}
use Rattle.session_laws.proofs.Counts.{count-append, other, own}
use Rattle.session_laws.proofs.SomeLemmas.{none≢some, some_is}

-- ---- labels that route nothing

abbrev routing : Label → Option (ℕ × ℕ × FromEmacs)
routing (Routed t i m) = Some (t, i, m)
routing l = None

abbrev NoRouting : List Label → Type 0
NoRouting [] = Unit {0}
NoRouting (l ∷ ls) = (routing l ≡ None) × NoRouting ls

not_among : (t k : ℕ) (m : FromEmacs) (ls : List Label) → NoRouting ls → Among (Routed t k m) ls → ⊥
not_among t k m [] h a = a
not_among t k m (l ∷ ls) h (inl e) = none≢some (sym h.0 ∙ ap routing (sym e))
not_among t k m (l ∷ ls) h (inr a) = not_among t k m ls h.1 a

no_routing : (u : ℕ) (m : Move) → NoRouting (told u m)
no_routing u (move.Protects k) = tt
no_routing u (move.Turns k) = (refl, tt)
no_routing u (move.Cleaned k) = tt
no_routing u (move.Asks kind tag text) = (refl, tt)
no_routing u (move.Answered kind tag) = tt
no_routing u (move.Unasked question.String tag) = (refl, tt)
no_routing u (move.Unasked question.YesNo tag) = tt
no_routing u (move.Begins i id p form q thread) = (refl, tt)
no_routing u (move.Ends i id reply) = (refl, (refl, tt))
no_routing u (move.Aborts i id) = (refl, (refl, tt))
no_routing u (move.Hears i p m) = (refl, tt)
no_routing u (move.Opens n m) = (refl, (refl, (refl, tt)))
no_routing u (move.Closes n) = (refl, (refl, tt))
no_routing u (move.Announces n m) = (refl, (refl, tt))
no_routing u (move.Writes (Output text b)) = (refl, tt)
no_routing u (move.Writes (NewPackage name prompt)) = (refl, tt)
no_routing u (move.Sweeps i id form q thread) = (refl, (refl, tt))

-- ---- labels that take nothing of thread t

takes_none : (t u k : ℕ) (m : Move) → t ≢ u → count (takes t k) (told u m) ≡ 0
takes_none t u k (move.Begins i id p form q thread) ne = omega (arith, other t u (i == k) ne)
takes_none t u k (move.Hears i p m) ne = omega (arith, other t u (i == k) ne)
takes_none t u k (move.Sweeps i id form q thread) ne = omega (arith, other t u (i == k) ne)
takes_none t u k (move.Unasked question.String tag) ne = omega arith
takes_none t u k (move.Unasked question.YesNo tag) ne = omega arith
takes_none t u k (move.Writes (Output text b)) ne = omega arith
takes_none t u k (move.Writes (NewPackage name prompt)) ne = omega arith
takes_none t u k m ne = omega arith

-- what waits, after labels that route and take nothing
waits_more : (t k : ℕ) (m : FromEmacs) (ls new : List Label) → count (takes t k) new ≡ 0 → Waits t k m ls → Waits t k m (ls ++ new)
waits_more t k m ls new none w = (among-left (Routed t k m) ls new w.0, omega (arith, count-append (takes t k) ls new, w.1, none))

waited : (t k : ℕ) (m : FromEmacs) (ls new : List Label) → NoRouting new → Waits t k m (ls ++ new) → Waits t k m ls
waited t k m ls new none w = (by_place (among-either (Routed t k m) ls new w.0), omega (arith, count-append (takes t k) ls new, w.1))
  where
    by_place : Among (Routed t k m) ls ⊎ Among (Routed t k m) new → Among (Routed t k m) ls
    by_place (inl a) = a
    by_place (inr a) = absurd (not_among t k m new none a)

-- one stretch of labels after another
takes-append : (b ls new : List Label) → TakesLeast b ls → TakesLeast (b ++ ls) new → TakesLeast b (ls ++ new)
takes-append b [] new h k = subst (λ x. TakesLeast x new) (append-nil b) k
takes-append b (Took t i p ∷ ls) new h k = (h.0, takes-append (b ++ Took t i p ∷ []) ls new h.1 (subst (λ x. TakesLeast x new) (sym (append_assoc b (Took t i p ∷ []) ls)) k))
takes-append b (l ∷ ls) new h k = takes-append (b ++ l ∷ []) ls new h (subst (λ x. TakesLeast x new) (sym (append_assoc b (l ∷ []) ls)) k)

-- ---- what is kept

-- the mailbox has what waits for the thread, in order of arrival
record MailHolds (t : ℕ) (ls : List Label) (mb : Mailbox) : Type 0 where
  inside : (n : ℕ × FromEmacs) → Among n mb → Waits t n.0 n.1 ls
  outside : (n : ℕ × FromEmacs) → Waits t n.0 n.1 ls → Among n mb
  ordered : AreInOrder mb

abbrev MailIs : ℕ → List Label → Seen → Type 0
MailIs t ls (Alive s) = MailHolds t ls s.mailbox
MailIs t ls Unborn = (n : ℕ × FromEmacs) → Among (Routed t n.0 n.1) ls → ⊥
MailIs t ls Gone = Unit {0}

record IsTaking (past : List Entry) (t : ℕ) (ls : List Label) (x : Seen) : Type 0 where
  least : TakesLeast [] ls
  fresh : (u k : ℕ) (m : FromEmacs) → Among (Routed u k m) ls → k < length past
  untaken : (k : ℕ) → length past ≤ k → count (takes t k) ls ≡ 0
  mail : MailIs t ls x

mail_more : (t : ℕ) (ls new : List Label) (x : Seen) → NoRouting new → ((k : ℕ) → count (takes t k) new ≡ 0) → MailIs t ls x → MailIs t (ls ++ new) x
mail_more t ls new (Alive s) none taken h = record {
  inside = λ n a. waits_more t n.0 n.1 ls new (taken n.0) (h.inside n a);
  outside = λ n w. h.outside n (waited t n.0 n.1 ls new none w);
  ordered = h.ordered;
}
mail_more t ls new Unborn none taken h = λ n a. by_place n (among-either (Routed t n.0 n.1) ls new a)
  where
    by_place : (n : ℕ × FromEmacs) → Among (Routed t n.0 n.1) ls ⊎ Among (Routed t n.0 n.1) new → ⊥
    by_place n (inl a) = h n a
    by_place n (inr a) = not_among t n.0 n.1 new none a
mail_more t ls new Gone none taken h = tt

fresh_more : (past : List Entry) (ls new : List Label) → NoRouting new → ((u k : ℕ) (m : FromEmacs) → Among (Routed u k m) ls → k < length past) → (u k : ℕ) (m : FromEmacs) → Among (Routed u k m) (ls ++ new) → k < length past
fresh_more past ls new none h u k m a = by_place (among-either (Routed u k m) ls new a)
  where
    by_place : Among (Routed u k m) ls ⊎ Among (Routed u k m) new → k < length past
    by_place (inl a) = h u k m a
    by_place (inr a) = absurd (not_among u k m new none a)

-- labels that concern thread t in no way
quiet : (past : List Entry) (t : ℕ) (ls new : List Label) (x y : Seen) → (MailIs t (ls ++ new) x → MailIs t (ls ++ new) y) → NoRouting new → ((k : ℕ) → count (takes t k) new ≡ 0) → TakesLeast ls new → IsTaking past t ls x → IsTaking past t (ls ++ new) y
quiet past t ls new x y same none taken least h = record {
  least = takes-append [] ls new h.least least;
  fresh = fresh_more past ls new none h.fresh;
  untaken = λ k le. omega (arith, count-append (takes t k) ls new, h.untaken k le, taken k);
  mail = same (mail_more t ls new x none taken h.mail);
}

-- the first that is accepted is the least
is_least : (t i : ℕ) (p : Pattern) (m : FromEmacs) (ls : List Label) (mb : Mailbox) → first_accepted p mb ≡ Some (i, m) → MailHolds t ls mb → IsLeast t i p ls
is_least t i p m ls mb e h = record {
  message = m;
  waits = h.inside (i, m) (first_among p mb (i, m) e);
  accepted = first_is_accepted p mb (i, m) e;
  least = λ k n w is. first_least p mb (i, m) (k, n) h.ordered e (h.outside (k, n) w) is;
}

differs : (i k : ℕ) → i ≢ k → tally (i == k) ≡ 0
differs i k ne = grind (arith, nat_tests)

no_tally : (i k : ℕ) → tally (i == k) ≡ 0 → i ≢ k
no_tally i k e same = absurd (omega (arith, e, here i k same))
  where
    here : (i k : ℕ) → i ≡ k → tally (i == k) ≡ 1
    here i k same = grind (arith, nat_tests)

-- thread t takes the first that is accepted
taking : (past : List Entry) (t : ℕ) (ls new : List Label) (mb : Mailbox) (i : ℕ) (p : Pattern) (m : FromEmacs) (x y : Seen) → first_accepted p mb ≡ Some (i, m) → NoRouting new → ((k : ℕ) → count (takes t k) new ≡ tally (i == k)) → TakesLeast ls new → MailHolds t ls mb → (MailHolds t (ls ++ new) (without_accepted p mb) → MailIs t (ls ++ new) y) → IsTaking past t ls x → IsTaking past t (ls ++ new) y
taking past t ls new mb i p m x y e none one least h is g = record {
  least = takes-append [] ls new g.least least;
  fresh = fresh_more past ls new none g.fresh;
  untaken = λ k le. let lt = g.fresh t i m (h.inside (i, m) (first_among p mb (i, m) e)).0 in omega (arith, count-append (takes t k) ls new, g.untaken k le, one k, differs i k (λ same. absurd (omega (arith, same, lt, le))));
  mail = is (record {
    inside = λ n a. let w = h.inside n (without_among p mb n a) in (among-left (Routed t n.0 n.1) ls new w.0, omega (arith, count-append (takes t n.0) ls new, w.1, one n.0, differs i n.0 (without_differs p mb (i, m) n h.ordered e a)));
    outside = λ n w. among_without p mb (i, m) n e (h.outside n (waited t n.0 n.1 ls new none w)) (no_tally i n.0 (omega (arith, count-append (takes t n.0) ls new, w.1, one n.0)));
    ordered = AreInOrder-without p mb h.ordered;
  });
}

one_taken : (t i k : ℕ) → tally ((t == t) && (i == k)) + 0 ≡ tally (i == k)
one_taken t i k = omega (arith, own t (i == k))

moves : (past : List Entry) (t : ℕ) (ls : List Label) (m : Move) (ms : List Mark) (s : ℕ) (mb : Mailbox) → Fits t m ms s mb → IsTaking past t ls (Alive (before m ms s mb)) → IsTaking past t (ls ++ told t m) (Alive (after m ms s mb))
moves past t ls (move.Begins i id p form q thread) ms s mb fits h = taking past t ls (Took t i p ∷ []) mb i p (mail.Rex form q thread id) _ _ fits (refl, tt) (one_taken t i) (is_least t i p (mail.Rex form q thread id) ls mb fits h.mail, tt) h.mail (λ k. k) h
moves past t ls (move.Hears i p m) ms s mb fits h = taking past t ls (Took t i p ∷ []) mb i p m _ _ fits.0 (refl, tt) (one_taken t i) (is_least t i p m ls mb fits.0 h.mail, tt) h.mail (λ k. k) h
moves past t ls (move.Sweeps i id form q thread) ms s mb fits h = taking past t ls _ mb i pattern.Rex (mail.Rex form q thread id) _ _ fits (no_routing t (move.Sweeps i id form q thread)) (λ k. omega (arith, own t (i == k))) tt h.mail (λ k. k) h
moves past t ls (move.Asks kind tag text) ms s mb fits h = quiet past t ls (told t (move.Asks kind tag text)) (Alive (before (move.Asks kind tag text) ms s mb)) (Alive (after (move.Asks kind tag text) ms s mb)) (λ k. k) (no_routing t (move.Asks kind tag text)) (λ k. refl) tt h
moves past t ls (move.Unasked question.String tag) ms s mb fits h = quiet past t ls (told t (move.Unasked question.String tag)) (Alive (before (move.Unasked question.String tag) ms s mb)) (Alive (after (move.Unasked question.String tag) ms s mb)) (λ k. k) (no_routing t (move.Unasked question.String tag)) (λ k. refl) tt h
moves past t ls (move.Unasked question.YesNo tag) ms s mb fits h = quiet past t ls (told t (move.Unasked question.YesNo tag)) (Alive (before (move.Unasked question.YesNo tag) ms s mb)) (Alive (after (move.Unasked question.YesNo tag) ms s mb)) (λ k. k) (no_routing t (move.Unasked question.YesNo tag)) (λ k. refl) tt h
moves past t ls (move.Writes (Output text b)) ms s mb fits h = quiet past t ls (told t (move.Writes (Output text b))) (Alive (before (move.Writes (Output text b)) ms s mb)) (Alive (after (move.Writes (Output text b)) ms s mb)) (λ k. k) (no_routing t (move.Writes (Output text b))) (λ k. refl) tt h
moves past t ls (move.Writes (NewPackage name prompt)) ms s mb fits h = quiet past t ls (told t (move.Writes (NewPackage name prompt))) (Alive (before (move.Writes (NewPackage name prompt)) ms s mb)) (Alive (after (move.Writes (NewPackage name prompt)) ms s mb)) (λ k. k) (no_routing t (move.Writes (NewPackage name prompt))) (λ k. refl) tt h
moves past t ls m ms s mb fits h = quiet past t ls (told t m) (Alive (before m ms s mb)) (Alive (after m ms s mb)) (λ k. k) (no_routing t m) (λ k. refl) tt h

same : (past : List Entry) (t : ℕ) (ls new : List Label) (x : Seen) → NoRouting new → ((k : ℕ) → count (takes t k) new ≡ 0) → TakesLeast ls new → IsTaking past t ls x → IsTaking past t (ls ++ new) x
same past t ls new x none taken least h = quiet past t ls new x x (λ k. k) none taken least h

-- a move of another thread
aside : (past : List Entry) (t u : ℕ) (ls : List Label) (x : Seen) (m : Move) (ms : List Mark) (s : ℕ) (mb : Mailbox) → Fits u m ms s mb → t ≢ u → IsTaking past u ls (Alive (before m ms s mb)) → IsTaking past t ls x → IsTaking past t (ls ++ told u m) x
aside past t u ls x (move.Begins i id p form q thread) ms s mb fits ne g h = same past t ls _ x (no_routing u (move.Begins i id p form q thread)) (λ k. takes_none t u k (move.Begins i id p form q thread) ne) (is_least u i p (mail.Rex form q thread id) ls mb fits g.mail, tt) h
aside past t u ls x (move.Hears i p m) ms s mb fits ne g h = same past t ls _ x (no_routing u (move.Hears i p m)) (λ k. takes_none t u k (move.Hears i p m) ne) (is_least u i p m ls mb fits.0 g.mail, tt) h
aside past t u ls x (move.Unasked question.String tag) ms s mb fits ne g h = same past t ls (told u (move.Unasked question.String tag)) x (no_routing u (move.Unasked question.String tag)) (λ k. takes_none t u k (move.Unasked question.String tag) ne) tt h
aside past t u ls x (move.Unasked question.YesNo tag) ms s mb fits ne g h = same past t ls (told u (move.Unasked question.YesNo tag)) x (no_routing u (move.Unasked question.YesNo tag)) (λ k. takes_none t u k (move.Unasked question.YesNo tag) ne) tt h
aside past t u ls x (move.Writes (Output text b)) ms s mb fits ne g h = same past t ls (told u (move.Writes (Output text b))) x (no_routing u (move.Writes (Output text b))) (λ k. takes_none t u k (move.Writes (Output text b)) ne) tt h
aside past t u ls x (move.Writes (NewPackage name prompt)) ms s mb fits ne g h = same past t ls (told u (move.Writes (NewPackage name prompt))) x (no_routing u (move.Writes (NewPackage name prompt))) (λ k. takes_none t u k (move.Writes (NewPackage name prompt)) ne) tt h
aside past t u ls x m ms s mb fits ne g h = same past t ls (told u m) x (no_routing u m) (λ k. takes_none t u k m ne) tt h

later : (past : List Entry) (e : Entry) (t : ℕ) (ls : List Label) (x : Seen) → IsTaking past t ls x → IsTaking (past ++ e ∷ []) t ls x
later past e t ls x h =
    let longer : length past ≤ length (past ++ e ∷ []) = omega (arith, length-append past (e ∷ [])) in
    record { least = h.least; fresh = λ u k m a. let lt = h.fresh u k m a in omega (arith, lt, longer); untaken = λ k le. h.untaken k (omega (arith, le, longer)); mail = h.mail }

-- ---- a message that is routed

-- one routing is another
abbrev Same : ℕ × ℕ × FromEmacs → ℕ × ℕ × FromEmacs → Type 0
Same a b = a ≡ b

routing_of : (t k u n : ℕ) (m o : FromEmacs) → Routed t k m ≡ Routed u n o → Same (t, k, m) (u, n, o)
routing_of t k u n m o e = some_is (ap routing e)

one_routing : (u k : ℕ) (m : FromEmacs) (t n : ℕ) (o : FromEmacs) (ls : List Label) → Among (Routed u k m) (ls ++ Routed t n o ∷ []) → Among (Routed u k m) ls ⊎ Same (u, k, m) (t, n, o)
one_routing u k m t n o ls a = by_place (among-either (Routed u k m) ls (Routed t n o ∷ []) a)
  where
    by_place : Among (Routed u k m) ls ⊎ Among (Routed u k m) (Routed t n o ∷ []) → Among (Routed u k m) ls ⊎ Same (u, k, m) (t, n, o)
    by_place (inl a) = inl a
    by_place (inr (inl e)) = inr (routing_of u k t n m o e)
    by_place (inr (inr a)) = absurd a

module _ (past : List Entry) (e : Entry) (t : ℕ) (ls : List Label) (m : FromEmacs) where
  longer : length (past ++ e ∷ []) ≡ length past + 1
  longer = omega (arith, length-append past (e ∷ []))

  fresh_routed : (x : Seen) (s : ℕ) → IsTaking past s ls x → (u k : ℕ) (o : FromEmacs) → Among (Routed u k o) (ls ++ Routed t (length past) m ∷ []) → k < length (past ++ e ∷ [])
  fresh_routed x s h u k o a = by_place (one_routing u k o t (length past) m ls a)
    where
      by_place : Among (Routed u k o) ls ⊎ Same (u, k, o) (t, length past, m) → k < length (past ++ e ∷ [])
      by_place (inl a) = let lt = h.fresh u k o a in omega (arith, lt, longer)
      by_place (inr is) = omega (arith, longer, ap (λ (y : ℕ × ℕ × FromEmacs). y.1) is)

  untaken_routed : (x : Seen) (s : ℕ) → IsTaking past s ls x → (k : ℕ) → length (past ++ e ∷ []) ≤ k → count (takes s k) (ls ++ Routed t (length past) m ∷ []) ≡ 0
  untaken_routed x s h k le = omega (arith, count-append (takes s k) ls (Routed t (length past) m ∷ []), h.untaken k (omega (arith, le, longer)))

  -- it is at the end of its thread's mailbox
  posted : (mb : Mailbox) (x : Seen) → IsTaking past t ls x → MailHolds t ls mb → MailHolds t (ls ++ Routed t (length past) m ∷ []) (mb ++ (length past, m) ∷ [])
  posted mb x h holds = record {
    inside = λ o a. inside o (among-either o mb ((length past, m) ∷ []) a);
    outside = λ o w. outside o w (one_routing t o.0 o.1 t (length past) m ls w.0);
    ordered = AreInOrder-append mb (length past, m) holds.ordered (all_before (length past) mb (λ o a. h.fresh t o.0 o.1 (holds.inside o a).0));
  }
    where
      inside : (o : ℕ × FromEmacs) → Among o mb ⊎ Among o ((length past, m) ∷ []) → Waits t o.0 o.1 (ls ++ Routed t (length past) m ∷ [])
      inside o (inl a) = waits_more t o.0 o.1 ls (Routed t (length past) m ∷ []) refl (holds.inside o a)
      inside o (inr (inl is)) = subst (λ (y : ℕ × FromEmacs). Waits t y.0 y.1 (ls ++ Routed t (length past) m ∷ [])) (sym is) (among-right (Routed t (length past) m) ls (Routed t (length past) m ∷ []) (inl refl), omega (arith, count-append (takes t (length past)) ls (Routed t (length past) m ∷ []), h.untaken (length past) (omega arith)))
      inside o (inr (inr a)) = absurd a

      outside : (o : ℕ × FromEmacs) → Waits t o.0 o.1 (ls ++ Routed t (length past) m ∷ []) → Among (Routed t o.0 o.1) ls ⊎ Same (t, o.0, o.1) (t, length past, m) → Among o (mb ++ (length past, m) ∷ [])
      outside o w (inl a) = among-left o mb ((length past, m) ∷ []) (holds.outside o (a, omega (arith, count-append (takes t o.0) ls (Routed t (length past) m ∷ []), w.1)))
      outside o w (inr is) = among-right o mb ((length past, m) ∷ []) (inl (ap (λ (y : ℕ × ℕ × FromEmacs). (y.1, y.2)) is))

  -- for another thread nothing changes
  elsewhere : (s : ℕ) (x : Seen) → s ≢ t → MailIs s ls x → MailIs s (ls ++ Routed t (length past) m ∷ []) x
  elsewhere s (Alive st) ne h = record {
    inside = λ o a. waits_more s o.0 o.1 ls (Routed t (length past) m ∷ []) refl (h.inside o a);
    outside = λ o w. h.outside o (other_routing o w (one_routing s o.0 o.1 t (length past) m ls w.0));
    ordered = h.ordered;
  }
    where
      other_routing : (o : ℕ × FromEmacs) → Waits s o.0 o.1 (ls ++ Routed t (length past) m ∷ []) → Among (Routed s o.0 o.1) ls ⊎ Same (s, o.0, o.1) (t, length past, m) → Waits s o.0 o.1 ls
      other_routing o w (inl a) = (a, omega (arith, count-append (takes s o.0) ls (Routed t (length past) m ∷ []), w.1))
      other_routing o w (inr is) = absurd (ne (ap (λ (y : ℕ × ℕ × FromEmacs). y.0) is))
  elsewhere s Unborn ne h = λ o a. by_place o (one_routing s o.0 o.1 t (length past) m ls a)
    where
      by_place : (o : ℕ × FromEmacs) → Among (Routed s o.0 o.1) ls ⊎ Same (s, o.0, o.1) (t, length past, m) → ⊥
      by_place o (inl a) = h o a
      by_place o (inr is) = ne (ap (λ (y : ℕ × ℕ × FromEmacs). y.0) is)
  elsewhere s Gone ne h = tt

  routes : (x y : Seen) (s : ℕ) → IsTaking past s ls x → MailIs s (ls ++ Routed t (length past) m ∷ []) y → IsTaking (past ++ e ∷ []) s (ls ++ Routed t (length past) m ∷ []) y
  routes x y s h is = record { least = takes-append [] ls (Routed t (length past) m ∷ []) h.least tt; fresh = fresh_routed x s h; untaken = untaken_routed x s h; mail = is }

empty : (t : ℕ) (ls : List Label) → ((o : ℕ × FromEmacs) → Among (Routed t o.0 o.1) ls → ⊥) → MailHolds t ls []
empty t ls h = record { inside = λ n a. absurd a; outside = λ n w. h n w.0; ordered = tt }

opening : (t : ℕ) (x : Seen) → MailIs t [] x → IsTaking [] t [] x
opening t x h = record { least = tt; fresh = λ u k m a. absurd a; untaken = λ k le. refl; mail = h }

law : IsLaw IsTaking
law = record {
  moves = moves;
  aside = aside;
  later = λ past e t ls x none h. later past e t ls x h;
  routed = λ past e t ls s m is h. routes past e t ls m (Alive s) _ t h (posted past e t ls m s.mailbox (Alive s) h h.mail);
  born = λ past e t ls m is h. routes past e t ls m Unborn _ t h (posted past e t ls m [] Unborn h (empty t ls h.mail));
  routed_aside = λ past e t u ls x m is ne h. routes past e u ls m x x t h (elsewhere past e u ls m t x ne h.mail);
  refused = λ past e t form p thread id text ls x is h. later past e t _ x (same past t ls (Refused (length past) ∷ Out (message.InvalidRpc id text) ∷ []) x (refl, (refl, tt)) (λ k. refl) tt h);
  noted = λ past t ls m x is h. same past t ls _ x (refl, tt) (λ k. refl) tt h;
  broken = λ past t u ls x h. same past t ls _ x (refl, tt) (λ k. refl) tt h;
  gone = λ past t ls s mb none h. record { least = h.least; fresh = h.fresh; untaken = h.untaken; mail = tt };
  unborn = λ t. opening t Unborn (λ n a. absurd a);
  none = λ t. opening t Gone tt;
  first = λ t. opening t (Alive (record { marks = []; serial = 0; mailbox = [] })) (empty t [] (λ o a. absurd a));
}

pub takings_are_least : (rules : Rules) (image : ImageState) (j : List Entry) → TakesLeast [] (labels rules image j)
takings_are_least rules image j = (always rules IsTaking law image j 0).least
