-- No message is taken twice.
use Rattle.std.proofs.Common.{◌≡◌, ℕ, ◌+◌, ◌≤◌, ◌≢◌, Bool, false, ◌&&◌, List, [], ◌∷◌, ◌++◌, length, refl, arith, length-append}
use Rattle.std.specs.Prelude.{◌==◌, nat_lt}
use Rattle.std.proofs.lemmas.Bool.Decides.{nat_tests}
use Rattle.rpc_messages.specs.declared.from_emacs.FromEmacs.{FromEmacs}
use Rattle.rpc_messages.specs.declared.from_emacs.FromEmacs.TheVariants as mail
use Rattle.rpc_messages.specs.declared.pattern.Pattern.TheVariants as pattern
use Rattle.term_model.specs.declared.question.Ask.TheVariants as question
use Rattle.term_model.specs.Label.{Label, Routed, Took, Swept}
use Rattle.step_model.specs.Image.{ImageState}
use Rattle.step_model.specs.Marks.{Mark}
use Rattle.step_model.specs.Moves as move
use Rattle.step_model.specs.Moves.{Move, Fits, after, before, told}
use Rattle.step_model.specs.Now.{Mailbox}
use Rattle.step_model.specs.Rules.{Rules, Output, NewPackage}
use Rattle.session_model.specs.declared.event.Entry.{Entry}
use Rattle.session_model.specs.Journal.{labels, run}
use Rattle.session_laws.specs.Counting.{count, tally}
use Rattle.session_laws.specs.Seen.{Seen, Unborn, Alive, Gone, seen_in}
use Rattle.session_laws.specs.TakesInOrder.{TakesInOrder, takes, takes_any}
use Rattle.session_laws.proofs.Always.{IsLaw, always}
use Rattle.session_laws.proofs.ByThread.{Says, all_of_one, of_one, one_of_all, owner, says_test, silent}
use Rattle.session_laws.proofs.Counts.{count-append, count_rest, other, own, tally_small}
use Rattle.session_laws.proofs.KeepsOrder.{takings_are_least}

routes : ℕ → ℕ → Label → Bool
routes t i (Routed u j m) = (u == t) && (j == i)
routes t i l = false

routes_any : ℕ → Label → Bool
routes_any i (Routed u j m) = j == i
routes_any i l = false

is_at : ℕ → ℕ × FromEmacs → Bool
is_at i n = n.0 == i

abbrev mails : ℕ → Seen → ℕ
mails i (Alive s) = count (is_at i) s.mailbox
mails i Unborn = 0
mails i Gone = 0

record IsTakenOnce (past : List Entry) (t : ℕ) (ls : List Label) (x : Seen) : Type 0 where
  taken : (i : ℕ) → count (takes t i) ls + mails i x ≤ count (routes t i) ls
  routed : (i : ℕ) → count (routes_any i) ls ≤ tally (nat_lt i (length past))

no_routes : (t u i : ℕ) (m : Move) → count (routes t i) (told u m) ≡ 0
unfolding routes
no_routes t u i (move.Unasked question.String tag) = omega arith
no_routes t u i (move.Unasked question.YesNo tag) = omega arith
no_routes t u i (move.Writes (Output text b)) = omega arith
no_routes t u i (move.Writes (NewPackage name prompt)) = omega arith
no_routes t u i m = omega arith

no_routes_any : (u i : ℕ) (m : Move) → count (routes_any i) (told u m) ≡ 0
unfolding routes_any
no_routes_any u i (move.Unasked question.String tag) = omega arith
no_routes_any u i (move.Unasked question.YesNo tag) = omega arith
no_routes_any u i (move.Writes (Output text b)) = omega arith
no_routes_any u i (move.Writes (NewPackage name prompt)) = omega arith
no_routes_any u i m = omega arith

-- what a move takes leaves the mailbox
takes_own : (t i : ℕ) (m : Move) (ms : List Mark) (s : ℕ) (mb : Mailbox) → Fits t m ms s mb → count (takes t i) (told t m) + mails i (Alive (after m ms s mb)) ≡ mails i (Alive (before m ms s mb))
unfolding is_at
takes_own t i (move.Begins j id p form q thread) ms s mb fits = omega (arith, own t (j == i), count_rest (is_at i) p mb (j, mail.Rex form q thread id) fits)
takes_own t i (move.Hears j p m) ms s mb fits = omega (arith, own t (j == i), count_rest (is_at i) p mb (j, m) fits.0)
takes_own t i (move.Sweeps j id form q thread) ms s mb fits = omega (arith, own t (j == i), count_rest (is_at i) pattern.Rex mb (j, mail.Rex form q thread id) fits)
takes_own t i (move.Unasked question.String tag) ms s mb fits = omega arith
takes_own t i (move.Unasked question.YesNo tag) ms s mb fits = omega arith
takes_own t i (move.Writes (Output text b)) ms s mb fits = omega arith
takes_own t i (move.Writes (NewPackage name prompt)) ms s mb fits = omega arith
takes_own t i m ms s mb fits = omega arith

takes_other : (t u i : ℕ) (m : Move) → t ≢ u → count (takes t i) (told u m) ≡ 0
takes_other t u i (move.Begins j id p form q thread) ne = omega (arith, other t u (j == i) ne)
takes_other t u i (move.Hears j p m) ne = omega (arith, other t u (j == i) ne)
takes_other t u i (move.Sweeps j id form q thread) ne = omega (arith, other t u (j == i) ne)
takes_other t u i (move.Unasked question.String tag) ne = omega arith
takes_other t u i (move.Unasked question.YesNo tag) ne = omega arith
takes_other t u i (move.Writes (Output text b)) ne = omega arith
takes_other t u i (move.Writes (NewPackage name prompt)) ne = omega arith
takes_other t u i m ne = omega arith

longer : (past : List Entry) (e : Entry) (i : ℕ) → tally (nat_lt i (length (past ++ e ∷ []))) ≡ tally (nat_lt i (length past)) + tally (length past == i)
longer past e i = by (length past) (length (past ++ e ∷ [])) (omega (arith, length-append past (e ∷ [])))
  where
    by : (n k : ℕ) → k ≡ n + 1 → tally (nat_lt i k) ≡ tally (nat_lt i n) + tally (n == i)
    by n k e = grind (arith, nat_tests)

-- labels that neither route nor take anything of thread t, and route nothing
quiet : (past : List Entry) (t : ℕ) (ls new : List Label) (x : Seen) → ((i : ℕ) → count (takes t i) new ≡ 0) → ((i : ℕ) → count (routes_any i) new ≡ 0) → IsTakenOnce past t ls x → IsTakenOnce past t (ls ++ new) x
quiet past t ls new x none routes_none h = record {
  taken = λ i. let le = h.taken i in omega (arith, le, count-append (takes t i) ls new, count-append (routes t i) ls new, none i);
  routed = λ i. let le = h.routed i in omega (arith, le, count-append (routes_any i) ls new, routes_none i);
}

later : (past : List Entry) (e : Entry) (t : ℕ) (ls : List Label) (x : Seen) → IsTakenOnce past t ls x → IsTakenOnce (past ++ e ∷ []) t ls x
later past e t ls x h = record { taken = h.taken; routed = λ i. let le = h.routed i in omega (arith, le, longer past e i) }

routing : (past : List Entry) (e : Entry) (t u : ℕ) (ls : List Label) (m : FromEmacs) (x y : Seen) → ((i : ℕ) → mails i y ≤ mails i x + count (routes t i) (Routed u (length past) m ∷ [])) → IsTakenOnce past t ls x → IsTakenOnce (past ++ e ∷ []) t (ls ++ Routed u (length past) m ∷ []) y
unfolding routes_any
routing past e t u ls m x y more h =
    let new : List Label = Routed u (length past) m ∷ [] in
    record {
      taken = λ i. let le = h.taken i in let more_mail = more i in omega (arith, le, more_mail, count-append (takes t i) ls new, count-append (routes t i) ls new);
      routed = λ i. let le = h.routed i in omega (arith, le, count-append (routes_any i) ls new, longer past e i);
    }

law : IsLaw IsTakenOnce
unfolding routes routes_any is_at
law = record {
  moves = λ past t ls m ms s mb fits h. record {
    taken = λ i. let le = h.taken i in omega (arith, le, count-append (takes t i) ls (told t m), count-append (routes t i) ls (told t m), takes_own t i m ms s mb fits, no_routes t t i m);
    routed = λ i. let le = h.routed i in omega (arith, le, count-append (routes_any i) ls (told t m), no_routes_any t i m);
  };
  aside = λ past t u ls x m ms s mb fits ne g h. quiet past t ls (told u m) x (λ i. takes_other t u i m ne) (λ i. no_routes_any u i m) h;
  later = λ past e t ls x none h. later past e t ls x h;
  routed = λ past e t ls s m is h. routing past e t t ls m (Alive s) _ (λ i. omega (arith, count-append (is_at i) s.mailbox ((length past, m) ∷ []), own t (length past == i))) h;
  born = λ past e t ls m is h. routing past e t t ls m Unborn _ (λ i. omega (arith, own t (length past == i))) h;
  routed_aside = λ past e t u ls x m is ne h. routing past e t u ls m x x (λ i. omega arith) h;
  refused = λ past e t form p thread id text ls x is h. later past e t _ x (quiet past t ls _ x (λ i. refl) (λ i. refl) h);
  noted = λ past t ls m x is h. quiet past t ls _ x (λ i. refl) (λ i. refl) h;
  broken = λ past t u ls x h. quiet past t ls _ x (λ i. refl) (λ i. refl) h;
  gone = λ past t ls s mb none h. record { taken = λ i. let le = h.taken i in omega (arith, le); routed = h.routed };
  unborn = λ t. record { taken = λ i. omega arith; routed = λ i. omega arith };
  none = λ t. record { taken = λ i. omega arith; routed = λ i. omega arith };
  first = λ t. record { taken = λ i. omega arith; routed = λ i. omega arith };
}

says_takes : (i : ℕ) (l : Label) → Says (λ t. takes t i) (takes_any i) l
says_takes i (Took u j p) = let s = says_test u (j == i) in of_one u s.1 s.0
says_takes i (Swept u j) = let s = says_test u (j == i) in of_one u s.1 s.0
says_takes i l = silent refl (λ t. refl)

says_routes : (i : ℕ) (l : Label) → Says (λ t. routes t i) (routes_any i) l
unfolding routes routes_any
says_routes i (Routed u j m) = let s = says_test u (j == i) in of_one u s.1 s.0
says_routes i l = silent refl (λ t. refl)

taken_once : (i : ℕ) (ls : List Label) → ((t : ℕ) → count (takes t i) ls ≤ count (routes t i) ls) → count (routes_any i) ls ≤ 1 → count (takes_any i) ls ≤ 1
taken_once i ls taken routed =
    let t = owner (λ t. routes t i) (routes_any i) (says_routes i) ls routed in
    let e = all_of_one (λ t. takes t i) (takes_any i) (says_takes i) t.0 ls (λ u ne. let le = taken u in omega (arith, le, t.1 u ne)) in
    let mine = taken t.0 in
    let all = one_of_all (λ t. routes t i) (routes_any i) (says_routes i) t.0 ls in
    omega (arith, e, mine, all, routed)

pub takes_in_order : (rules : Rules) (image : ImageState) (j : List Entry) → TakesInOrder rules image j
takes_in_order rules image j = record {
  least = takings_are_least rules image j;
  once = λ i. taken_once i (labels rules image j) (λ t. let le = (holds t).taken i in omega (arith, le)) (let le = (holds 0).routed i in omega (arith, le, tally_small (nat_lt i (length j))));
}
  where
    holds : (t : ℕ) → IsTakenOnce j t (labels rules image j) (seen_in (run rules image j).threads t)
    holds t = always rules IsTakenOnce law image j t
