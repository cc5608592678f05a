-- Each move keeps the requests of its thread.
use Rattle.std.proofs.Common.{◌≡◌, ℕ, ◌+◌, ◌≢◌, Bool, false, List, [], ◌∷◌, ◌++◌, length, Option, Some, None, refl, sym, ap, subst, arith}
use Rattle.std.specs.Prelude.{◌==◌}
use Rattle.mailboxes.specs.Mail.{first_accepted}
use Rattle.rpc_messages.specs.declared.from_emacs.FromEmacs.{FromEmacs}
use Rattle.rpc_messages.specs.declared.from_emacs.FromEmacs.TheVariants as mail
use Rattle.rpc_messages.specs.declared.pattern.Pattern.TheVariants as pattern
use Rattle.term_model.specs.declared.frame.Frame.TheVariants as frame
use Rattle.term_model.specs.declared.question.Ask.TheVariants as question
use Rattle.term_model.specs.Label.{Label, Routed}
use Rattle.term_model.specs.Term.{Context, split}
use Rattle.step_model.specs.Image.{ImageState}
use Rattle.step_model.specs.Marks.{Mark, Serving, marks}
use Rattle.step_model.specs.Moves.{Move, Unasked, Begins, Ends, Aborts, Hears, Writes, Sweeps, Fits, after, before, is_request, told}
use Rattle.step_model.specs.Now.{Mailbox}
use Rattle.step_model.specs.Rules.{Rules, Output, NewPackage}
use Rattle.session_model.specs.declared.event.Entry.{Entry}
use Rattle.session_model.specs.Journal.{labels, run}
use Rattle.session_model.specs.World.{Thread, thread_at}
use Rattle.session_laws.specs.AnswersOnce.{closes, held, is_request_at, places_with, routes_request, serves}
use Rattle.session_laws.specs.Counting.{count, tally}
use Rattle.session_laws.specs.Seen.{Seen, Unborn, Alive, Gone, seen, seen_in, state_in}
use Rattle.session_laws.proofs.Always.{IsLaw, always}
use Rattle.session_laws.proofs.Counts.{count-append, count_rest, other, own}
use Rattle.session_laws.proofs.SomeLemmas.{none≢some}
use Rattle.session_laws.proofs.Threads.{found, not_live}

is_serving : ℕ → Mark → Bool
is_serving i (Serving j id) = j == i
is_serving i m = false

abbrev holds : ℕ → Seen → ℕ
holds i (Alive s) = count (is_request_at i) s.mailbox + count (is_serving i) s.marks
holds i Unborn = 0
holds i Gone = 0

-- each request that was routed to a thread is in its mailbox or its term, or is over
IsKept : ℕ → List Label → Seen → Type 0
IsKept t ls x = (i : ℕ) → count (routes_request t i) ls ≡ holds i x + count (closes t i) ls

-- no move routes
routes_none : (t u i : ℕ) (m : Move) → count (routes_request t i) (told u m) ≡ 0
routes_none t u i (Unasked question.String tag) = omega arith
routes_none t u i (Unasked question.YesNo tag) = omega arith
routes_none t u i (Writes (Output text b)) = omega arith
routes_none t u i (Writes (NewPackage name prompt)) = omega arith
routes_none t u i m = omega arith

none_of : (i j : ℕ) (m : FromEmacs) → is_request m ≡ false → is_request_at i (j, m) ≡ false
none_of i j (mail.Rex form p thread id) e = absurd (cc)
none_of i j m e = refl

-- what a move closes is what it takes from the thread
closes_own : (t i : ℕ) (m : Move) (ms : List Mark) (s : ℕ) (mb : Mailbox) → Fits t m ms s mb → holds i (Alive (before m ms s mb)) ≡ holds i (Alive (after m ms s mb)) + count (closes t i) (told t m)
unfolding is_serving
closes_own t i (Begins j id p form q thread) ms s mb fits = omega (arith, count_rest (is_request_at i) p mb (j, mail.Rex form q thread id) fits)
closes_own t i (Hears j p m) ms s mb fits = omega (arith, count_rest (is_request_at i) p mb (j, m) fits.0, ap tally (none_of i j m fits.1))
closes_own t i (Sweeps j id form q thread) ms s mb fits = omega (arith, count_rest (is_request_at i) pattern.Rex mb (j, mail.Rex form q thread id) fits, own t (j == i))
closes_own t i (Ends j id reply) ms s mb fits = omega (arith, own t (j == i))
closes_own t i (Aborts j id) ms s mb fits = omega (arith, own t (j == i))
closes_own t i (Unasked question.String tag) ms s mb fits = omega arith
closes_own t i (Unasked question.YesNo tag) ms s mb fits = omega arith
closes_own t i (Writes (Output text b)) ms s mb fits = omega arith
closes_own t i (Writes (NewPackage name prompt)) ms s mb fits = omega arith
closes_own t i m ms s mb fits = omega arith

closes_other : (t u i : ℕ) (m : Move) → t ≢ u → count (closes t i) (told u m) ≡ 0
closes_other t u i (Ends j id reply) ne = omega (arith, other t u (j == i) ne)
closes_other t u i (Aborts j id) ne = omega (arith, other t u (j == i) ne)
closes_other t u i (Sweeps j id form q thread) ne = omega (arith, other t u (j == i) ne)
closes_other t u i (Unasked question.String tag) ne = omega arith
closes_other t u i (Unasked question.YesNo tag) ne = omega arith
closes_other t u i (Writes (Output text b)) ne = omega arith
closes_other t u i (Writes (NewPackage name prompt)) ne = omega arith
closes_other t u i m ne = omega arith

-- labels that neither route to thread t nor close a request of it
quiet : (t : ℕ) (ls new : List Label) (x : Seen) → ((i : ℕ) → count (routes_request t i) new ≡ 0) → ((i : ℕ) → count (closes t i) new ≡ 0) → IsKept t ls x → IsKept t (ls ++ new) x
unfolding IsKept
quiet t ls new x r c h i = omega (arith, count-append (routes_request t i) ls new, count-append (closes t i) ls new, r i, c i, h i)

moves : (t : ℕ) (ls : List Label) (m : Move) (ms : List Mark) (s : ℕ) (mb : Mailbox) → Fits t m ms s mb → IsKept t ls (Alive (before m ms s mb)) → IsKept t (ls ++ told t m) (Alive (after m ms s mb))
unfolding IsKept
moves t ls m ms s mb fits h i =
    omega (arith, count-append (routes_request t i) ls (told t m), count-append (closes t i) ls (told t m), routes_none t t i m, closes_own t i m ms s mb fits, h i)

no_request : (i : ℕ) (mb : Mailbox) → first_accepted pattern.Rex mb ≡ None → count (is_request_at i) mb ≡ 0
no_request i [] e = refl
no_request i ((j, mail.Rex form p thread id) ∷ mb) e = absurd (none≢some (sym e))
no_request i ((j, mail.Interrupt thread) ∷ mb) e = omega (arith, no_request i mb e)
no_request i ((j, mail.ReturnString thread tag text) ∷ mb) e = omega (arith, no_request i mb e)
no_request i ((j, mail.Return thread tag form) ∷ mb) e = omega (arith, no_request i mb e)
no_request i ((j, mail.Unreadable packet text) ∷ mb) e = omega (arith, no_request i mb e)

-- a message that is routed, at its own thread and at another
routed_own : (t i j : ℕ) (m : FromEmacs) → count (routes_request t i) (Routed t j m ∷ []) ≡ count (is_request_at i) ((j, m) ∷ [])
routed_own t i j (mail.Rex form p thread id) = omega (arith, own t (j == i))
routed_own t i j m = refl

routed_other : (t u i j : ℕ) (m : FromEmacs) → t ≢ u → count (routes_request t i) (Routed u j m ∷ []) ≡ 0
routed_other t u i j (mail.Rex form p thread id) ne = omega (arith, other t u (j == i) ne)
routed_other t u i j m ne = omega arith

law : IsLaw (λ past. IsKept)
unfolding IsKept is_serving
law = record {
  moves = λ past. moves;
  aside = λ past t u ls x m ms s mb fits ne g h. quiet t ls (told u m) x (λ i. routes_none t u i m) (λ i. closes_other t u i m ne) h;
  later = λ past e t ls x none h. h;
  routed = λ past e t ls s m is h i. omega (arith, count-append (routes_request t i) ls (Routed t (length past) m ∷ []), count-append (closes t i) ls (Routed t (length past) m ∷ []), count-append (is_request_at i) s.mailbox ((length past, m) ∷ []), routed_own t i (length past) m, h i);
  born = λ past e t ls m is h i. omega (arith, count-append (routes_request t i) ls (Routed t (length past) m ∷ []), count-append (closes t i) ls (Routed t (length past) m ∷ []), routed_own t i (length past) m, h i);
  routed_aside = λ past e t u ls x m is ne h. quiet t ls _ x (λ i. routed_other t u i (length past) m ne) (λ i. refl) h;
  refused = λ past e t form p thread id text ls x is h. quiet t ls _ x (λ i. refl) (λ i. refl) h;
  noted = λ past t ls m x is h. quiet t ls _ x (λ i. refl) (λ i. refl) h;
  broken = λ past t u ls x h. quiet t ls _ x (λ i. refl) (λ i. refl) h;
  gone = λ past t ls s mb none h i. omega (arith, h i, no_request i mb none);
  unborn = λ t i. refl;
  none = λ t i. refl;
  first = λ t i. refl;
}

-- ---- from marks to layers

serving-serves : (i : ℕ) (c : Context) → count (is_serving i) (marks c) ≡ count (serves i) c
unfolding is_serving
serving-serves i [] = refl
serving-serves i (frame.Rex j id form ∷ c) = ap (λ a. tally (j == i) + a) (serving-serves i c)
serving-serves i (frame.On p ∷ c) = omega (arith, serving-serves i c)
serving-serves i (frame.Protect n cleanup ∷ c) = omega (arith, serving-serves i c)
serving-serves i (frame.Cleanup n saved ∷ c) = omega (arith, serving-serves i c)
serving-serves i (frame.Sldb n condition again ∷ c) = omega (arith, serving-serves i c)
serving-serves i (frame.Ask kind tag ∷ c) = omega (arith, serving-serves i c)

-- each request that was routed to a thread is in one place of it
pub routed_is_kept : (rules : Rules) (image : ImageState) (j : List Entry) (t i : ℕ) → count (routes_request t i) (labels rules image j) ≡ places_with t i (run rules image j) (labels rules image j)
unfolding IsKept
routed_is_kept rules image j t i = by_thread (thread_at (run rules image j) t) refl
  where
    kept : IsKept t (labels rules image j) (seen_in (run rules image j).threads t)
    kept = always rules (λ past. IsKept) law image j t

    by_thread : (o : Option Thread) → thread_at (run rules image j) t ≡ o → count (routes_request t i) (labels rules image j) ≡ held i o + count (closes t i) (labels rules image j)
    by_thread (Some thread) e =
        let h : IsKept t (labels rules image j) (Alive (state_in thread)) = subst (λ o. IsKept t (labels rules image j) (seen o)) (found (run rules image j).threads t thread e) kept in
        omega (arith, h i, serving-serves i (split thread.term).0)
    by_thread None e =
        not_live (run rules image j).threads t e (λ x. IsKept t (labels rules image j) x → count (routes_request t i) (labels rules image j) ≡ 0 + count (closes t i) (labels rules image j)) (λ h. h i) (λ h. h i) kept
