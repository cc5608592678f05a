-- Each move keeps the nesting of levels.
use Rattle.std.proofs.Common.{◌≡◌, ℕ, suc, ◌+◌, ◌≢◌, true, List, [], ◌∷◌, ◌++◌, length, Option, Some, None, refl, sym, ap, ◌∙◌, subst, arith}
use Rattle.std.specs.Prelude.{◌==◌, if◌then◌else◌, fold}
use Rattle.std.proofs.lemmas.Bool.Decides.{nat_tests}
use Rattle.std.proofs.lemmas.List.Sums.{fold-append}
use Rattle.rpc_messages.specs.declared.to_emacs.ToEmacs.{ToEmacs}
use Rattle.rpc_messages.specs.declared.to_emacs.ToEmacs.TheVariants as message
use Rattle.term_model.specs.declared.frame.Frame.TheVariants as frame
use Rattle.term_model.specs.declared.question.Ask.TheVariants as question
use Rattle.term_model.specs.Label.{Label}
use Rattle.term_model.specs.Levels.{level_numbers}
use Rattle.term_model.specs.Room.{levels}
use Rattle.term_model.specs.Term.{Context, split}
use Rattle.step_model.proofs.MarkLemmas.{levels-depth}
use Rattle.step_model.specs.Image.{ImageState}
use Rattle.step_model.specs.Marks.{Mark, depth, marks}
use Rattle.step_model.specs.Moves.{Move, Asks, Unasked, Opens, Closes, Announces, Writes, Fits, after, announced_level, before, told}
use Rattle.step_model.specs.Now.{Mailbox}
use Rattle.step_model.specs.Order.{AreNumbered}
use Rattle.step_model.specs.Rules.{Rules, Output, NewPackage}
use Rattle.session_model.specs.declared.event.Entry.{Entry}
use Rattle.session_model.specs.Journal.{labels, outputs, run}
use Rattle.session_model.specs.World.{Thread, messages_in, thread_at}
use Rattle.session_laws.specs.LevelsNest.{LevelsNest, descending, heard, lowered, raised, view, viewed}
use Rattle.session_laws.specs.Seen.{Seen, Unborn, Alive, Gone, seen, state_in}
use Rattle.session_laws.proofs.Always.{IsLaw, always, is_note}
use Rattle.session_laws.proofs.SomeLemmas.{none≢some, some_is}
use Rattle.term_model.proofs.Messages.{messages_in-append}
use Rattle.session_laws.proofs.Threads.{found, not_live}

abbrev depth_of : Seen → ℕ
depth_of (Alive s) = depth s.marks
depth_of Unborn = 0
depth_of Gone = 0

abbrev IsNumbered : Seen → Type 0
IsNumbered (Alive s) = AreNumbered s.marks
IsNumbered Unborn = Unit {0}
IsNumbered Gone = Unit {0}

record IsNested (t : ℕ) (ls : List Label) (x : Seen) : Type 0 where
  depth : view t (messages_in ls) ≡ Some (depth_of x)
  numbered : IsNumbered x

-- the view goes on
more : (t : ℕ) (ls new : List Label) (d e : ℕ) → view t (messages_in ls) ≡ Some d → fold (viewed t) (Some d) (messages_in new) ≡ Some e → view t (messages_in (ls ++ new)) ≡ Some e
more t ls new d e h k =
    ap (view t) (messages_in-append ls new) ∙ fold-append (viewed t) (Some 0) (messages_in ls) (messages_in new) ∙ ap (λ v. fold (viewed t) v (messages_in new)) h ∙ k

-- the depth stays, and nothing of the debugger is told
quiet : (t : ℕ) (ls new : List Label) (x y : Seen) → depth_of x ≡ depth_of y → (IsNumbered x → IsNumbered y) → fold (viewed t) (Some (depth_of y)) (messages_in new) ≡ Some (depth_of y) → IsNested t ls x → IsNested t (ls ++ new) y
quiet t ls new x y same numbered k h = record { depth = more t ls new (depth_of y) (depth_of y) (h.depth ∙ ap Some same) k; numbered = numbered h.numbered }

-- ---- what is announced

debug_heard : (t d u n : ℕ) (m : ToEmacs) → announced_level m ≡ Some (u, n) → heard t d m ≡ (if u == t then raised d n else Some d)
debug_heard t d u n (message.Debug v k text kind restarts frames continuations) e = ap (λ (x : ℕ × ℕ). if x.0 == t then raised d x.1 else Some d) (some_is e)
debug_heard t d u n m e = absurd (none≢some e)

raised_next : (t d n : ℕ) → n ≡ d + 1 → (if t == t then raised d n else Some d) ≡ Some (d + 1)
raised_next t d n e = grind (arith, nat_tests)

raised_again : (t d n : ℕ) → n ≡ d + 1 → (if t == t then raised (d + 1) n else Some (d + 1)) ≡ Some (d + 1)
raised_again t d n e = grind (arith, nat_tests)

lowered_own : (t d n : ℕ) → n ≡ d + 1 → heard t (d + 1) (message.DebugReturn t n) ≡ Some d
lowered_own t d n e = grind (arith, nat_tests)

not_own : (t u : ℕ) (o p : Option ℕ) → t ≢ u → (if u == t then o else p) ≡ p
not_own t u o p ne = grind (arith, nat_tests)

-- after a message on a level comes `:debug-activate`
activated : (t d e u n : ℕ) (m : ToEmacs) → heard t d m ≡ Some e → fold (viewed t) (Some d) (m ∷ message.DebugActivate u n ∷ []) ≡ Some e
activated t d e u n m h = ap (λ v. fold (viewed t) v (message.DebugActivate u n ∷ [])) h

-- ---- moves

moves : (t : ℕ) (ls : List Label) (m : Move) (ms : List Mark) (s : ℕ) (mb : Mailbox) → Fits t m ms s mb → IsNested t ls (Alive (before m ms s mb)) → IsNested t (ls ++ told t m) (Alive (after m ms s mb))
moves t ls (Opens n m) ms s mb fits h = record {
  depth = more t ls (told t (Opens n m)) (depth ms) (depth ms + 1) h.depth (activated t (depth ms) (depth ms + 1) t n m (debug_heard t (depth ms) t n m fits.2 ∙ raised_next t (depth ms) n fits.0));
  numbered = (fits.0, h.numbered);
}
moves t ls (Closes n) ms s mb fits h = record {
  depth = more t ls (told t (Closes n)) (depth ms + 1) (depth ms) h.depth (lowered_own t (depth ms) n h.numbered.0);
  numbered = h.numbered.1;
}
moves t ls (Announces n m) ms s mb fits h = record {
  depth = more t ls (told t (Announces n m)) (depth ms + 1) (depth ms + 1) h.depth (activated t (depth ms + 1) (depth ms + 1) t n m (debug_heard t (depth ms + 1) t n m fits ∙ raised_again t (depth ms) n h.numbered.0));
  numbered = h.numbered;
}
moves t ls (Asks question.String tag text) ms s mb fits h = quiet t ls _ (Alive (before (Asks question.String tag text) ms s mb)) (Alive (after (Asks question.String tag text) ms s mb)) refl (λ k. k) refl h
moves t ls (Asks question.YesNo tag text) ms s mb fits h = quiet t ls _ (Alive (before (Asks question.YesNo tag text) ms s mb)) (Alive (after (Asks question.YesNo tag text) ms s mb)) refl (λ k. k) refl h
moves t ls (Unasked question.String tag) ms s mb fits h = quiet t ls _ (Alive (before (Unasked question.String tag) ms s mb)) (Alive (after (Unasked question.String tag) ms s mb)) refl (λ k. k) refl h
moves t ls (Unasked question.YesNo tag) ms s mb fits h = quiet t ls _ (Alive (before (Unasked question.YesNo tag) ms s mb)) (Alive (after (Unasked question.YesNo tag) ms s mb)) refl (λ k. k) refl h
moves t ls (Writes (Output text b)) ms s mb fits h = quiet t ls _ (Alive (before (Writes (Output text b)) ms s mb)) (Alive (after (Writes (Output text b)) ms s mb)) refl (λ k. k) refl h
moves t ls (Writes (NewPackage name prompt)) ms s mb fits h = quiet t ls _ (Alive (before (Writes (NewPackage name prompt)) ms s mb)) (Alive (after (Writes (NewPackage name prompt)) ms s mb)) refl (λ k. k) refl h
moves t ls m ms s mb fits h = quiet t ls (told t m) (Alive (before m ms s mb)) (Alive (after m ms s mb)) refl (λ k. k) refl h

same : (t : ℕ) (ls new : List Label) (x : Seen) → fold (viewed t) (Some (depth_of x)) (messages_in new) ≡ Some (depth_of x) → IsNested t ls x → IsNested t (ls ++ new) x
same t ls new x k h = quiet t ls new x x refl (λ n. n) k h

aside : (t u : ℕ) (ls : List Label) (x : Seen) (m : Move) (ms : List Mark) (s : ℕ) (mb : Mailbox) → Fits u m ms s mb → t ≢ u → IsNested t ls x → IsNested t (ls ++ told u m) x
aside t u ls x (Opens n m) ms s mb fits ne h = same t ls (told u (Opens n m)) x (activated t (depth_of x) (depth_of x) u n m (debug_heard t (depth_of x) u n m fits.2 ∙ not_own t u (raised (depth_of x) n) (Some (depth_of x)) ne)) h
aside t u ls x (Closes n) ms s mb fits ne h = same t ls (told u (Closes n)) x (not_own t u (lowered (depth_of x) n) (Some (depth_of x)) ne) h
aside t u ls x (Announces n m) ms s mb fits ne h = same t ls (told u (Announces n m)) x (activated t (depth_of x) (depth_of x) u n m (debug_heard t (depth_of x) u n m fits ∙ not_own t u (raised (depth_of x) n) (Some (depth_of x)) ne)) h
aside t u ls x (Asks question.String tag text) ms s mb fits ne h = same t ls _ x refl h
aside t u ls x (Asks question.YesNo tag text) ms s mb fits ne h = same t ls _ x refl h
aside t u ls x (Unasked question.String tag) ms s mb fits ne h = same t ls _ x refl h
aside t u ls x (Unasked question.YesNo tag) ms s mb fits ne h = same t ls _ x refl h
aside t u ls x (Writes (Output text b)) ms s mb fits ne h = same t ls _ x refl h
aside t u ls x (Writes (NewPackage name prompt)) ms s mb fits ne h = same t ls _ x refl h
aside t u ls x m ms s mb fits ne h = same t ls (told u m) x refl h

note_heard : (t d : ℕ) (m : ToEmacs) → is_note m ≡ true → heard t d m ≡ Some d
note_heard t d (message.DebugCondition u text) is = refl
note_heard t d (message.ReaderError packet text) is = refl
note_heard t d m is = absurd (cc)

law : IsLaw (λ past. IsNested)
law = record {
  moves = λ past. moves;
  aside = λ past t u ls x m ms s mb fits ne g h. aside t u ls x m ms s mb fits ne h;
  later = λ past e t ls x none h. h;
  routed = λ past e t ls s m is h. quiet t ls _ (Alive s) (Alive (record s { mailbox = s.mailbox ++ (length past, m) ∷ [] })) refl (λ n. n) refl h;
  born = λ past e t ls m is h. quiet t ls _ Unborn (Alive (record { marks = []; serial = 0; mailbox = (length past, m) ∷ [] })) refl (λ n. n) refl h;
  routed_aside = λ past e t u ls x m is ne h. same t ls _ x refl h;
  refused = λ past e t form p thread id text ls x is h. same t ls _ x refl h;
  noted = λ past t ls m x is h. same t ls _ x (note_heard t (depth_of x) m is) h;
  broken = λ past t u ls x h. same t ls _ x refl h;
  gone = λ past t ls s mb none h. record { depth = h.depth; numbered = tt };
  unborn = λ t. record { depth = refl; numbered = tt };
  none = λ t. record { depth = refl; numbered = tt };
  first = λ t. record { depth = refl; numbered = tt };
}

-- ---- from marks to layers

numbers : (c : Context) → AreNumbered (marks c) → level_numbers c ≡ descending (levels c)
numbers [] h = refl
numbers (frame.Sldb n condition again ∷ c) h =
    let e : n ≡ suc (levels c) = omega (arith, h.0, levels-depth c) in
    let s : suc (levels c) ≡ levels c + 1 = omega arith in
    ap (λ k. k ∷ level_numbers c) e ∙ ap (λ ks. suc (levels c) ∷ ks) (numbers c h.1) ∙ ap descending s
numbers (frame.On p ∷ c) h = numbers c h
numbers (frame.Protect k cleanup ∷ c) h = numbers c h
numbers (frame.Cleanup k saved ∷ c) h = numbers c h
numbers (frame.Rex i id form ∷ c) h = numbers c h
numbers (frame.Ask kind tag ∷ c) h = numbers c h

pub levels_nest : (rules : Rules) (image : ImageState) (j : List Entry) → LevelsNest rules image j
levels_nest rules image j = record {
  depth = λ t thread e. (live t thread e).depth ∙ ap Some (sym (levels-depth (split thread.term).0));
  numbers = λ t thread e. numbers (split thread.term).0 (live t thread e).numbered;
  ended = dead;
}
  where
    live : (t : ℕ) (thread : Thread) → thread_at (run rules image j) t ≡ Some thread → IsNested t (labels rules image j) (Alive (state_in thread))
    live t thread e = subst (λ o. IsNested t (labels rules image j) (seen o)) (found (run rules image j).threads t thread e) (always rules (λ past. IsNested) law image j t)

    dead : (t : ℕ) → thread_at (run rules image j) t ≡ None → view t (outputs rules image j) ≡ Some 0
    dead t e = not_live (run rules image j).threads t e (λ x. view t (outputs rules image j) ≡ Some (depth_of x) → view t (outputs rules image j) ≡ Some 0) (λ k. k) (λ k. k) (always rules (λ past. IsNested) law image j t).depth
