-- Each request that ends is answered at once, by its id.
use Rattle.std.proofs.Common.{◌≡◌, ℕ, ℤ, zero, suc, Bool, true, false, List, [], ◌∷◌, ◌++◌, length, Some, refl, ap, ◌∙◌, subst}
use Rattle.std.specs.Prelude.{if◌then◌else◌}
use Rattle.mailboxes.specs.Mail.{first_accepted, without_accepted}
use Rattle.rpc_messages.specs.declared.from_emacs.FromEmacs.{FromEmacs}
use Rattle.rpc_messages.specs.declared.from_emacs.FromEmacs.TheVariants as mail
use Rattle.rpc_messages.specs.declared.pattern.Pattern.{Pattern}
use Rattle.rpc_messages.specs.declared.pattern.Pattern.TheVariants as pattern
use Rattle.rpc_messages.specs.declared.to_emacs.ToEmacs.{ToEmacs}
use Rattle.rpc_messages.specs.declared.to_emacs.ToEmacs.TheVariants as message
use Rattle.rpc_messages.specs.Waiting.{accepted}
use Rattle.term_model.specs.declared.question.Ask.TheVariants as question
use Rattle.term_model.specs.Label.{Label}
use Rattle.step_model.specs.Image.{ImageState}
use Rattle.step_model.specs.Marks.{Mark, Protected, Cleaning, Serving, Level, Asking}
use Rattle.step_model.specs.Moves as move
use Rattle.step_model.specs.Moves.{Move, Fits, after, announced_level, before, told}
use Rattle.step_model.specs.Now.{Mailbox}
use Rattle.step_model.specs.Rules.{Rules, Output, NewPackage}
use Rattle.session_model.specs.declared.event.Entry.{Entry}
use Rattle.session_model.specs.declared.event.Event.TheVariants.{Arrive}
use Rattle.session_model.specs.Journal.{labels}
use Rattle.session_laws.specs.AnswersOnce.{AreAnswered, ended, id_at, id_in, id_of, is_no_answer, nothing, other, refused, swept}
use Rattle.session_laws.specs.Seen.{Seen, Unborn, Alive, Gone}
use Rattle.session_laws.proofs.Always.{IsLaw, always, is_note}
use Rattle.session_laws.proofs.SomeLemmas.{none≢some, some_is}
use Rattle.session_laws.proofs.Threads.{get-append_last}

-- ---- the ids in a mailbox and in a term are those of the arrivals

abbrev Known : List Entry → ℕ × FromEmacs → Type 0
Known j (i, mail.Rex form p thread id) = id_at j i ≡ Some id
Known j (i, m) = Unit {0}

abbrev MailKnown : List Entry → Mailbox → Type 0
MailKnown j [] = Unit {0}
MailKnown j (m ∷ mb) = Known j m × MailKnown j mb

abbrev MarksKnown : List Entry → List Mark → Type 0
MarksKnown j [] = Unit {0}
MarksKnown j (Serving i id ∷ ms) = (id_at j i ≡ Some id) × MarksKnown j ms
MarksKnown j (_ ∷ ms) = MarksKnown j ms

abbrev SeenKnown : List Entry → Seen → Type 0
SeenKnown j (Alive s) = MailKnown j s.mailbox × MarksKnown j s.marks
SeenKnown j Unborn = Unit {0}
SeenKnown j Gone = Unit {0}

record IsAnswered (j : List Entry) (t : ℕ) (ls : List Label) (x : Seen) : Type 0 where
  answered : AreAnswered j ls
  known : SeenKnown j x

-- ---- what is known stays known

id_later : (j : List Entry) (e : Entry) (i : ℕ) (id : ℤ) → id_at j i ≡ Some id → id_at (j ++ e ∷ []) i ≡ Some id
id_later [] e i id h = absurd (none≢some h)
id_later (d ∷ j) e zero id h = h
id_later (d ∷ j) e (suc i) id h = id_later j e i id h

known_later : (j : List Entry) (e : Entry) (m : ℕ × FromEmacs) → Known j m → Known (j ++ e ∷ []) m
known_later j e (i, mail.Rex form p thread id) h = id_later j e i id h
known_later j e (i, m) h = tt

mail_later : (j : List Entry) (e : Entry) (mb : Mailbox) → MailKnown j mb → MailKnown (j ++ e ∷ []) mb
mail_later j e [] h = tt
mail_later j e (m ∷ mb) h = (known_later j e m h.0, mail_later j e mb h.1)

marks_later : (j : List Entry) (e : Entry) (ms : List Mark) → MarksKnown j ms → MarksKnown (j ++ e ∷ []) ms
marks_later j e [] h = tt
marks_later j e (Serving i id ∷ ms) h = (id_later j e i id h.0, marks_later j e ms h.1)
marks_later j e (Protected k ∷ ms) h = marks_later j e ms h
marks_later j e (Cleaning k ∷ ms) h = marks_later j e ms h
marks_later j e (Level n ∷ ms) h = marks_later j e ms h
marks_later j e (Asking kind tag ∷ ms) h = marks_later j e ms h

seen_later : (j : List Entry) (e : Entry) (x : Seen) → SeenKnown j x → SeenKnown (j ++ e ∷ []) x
seen_later j e Unborn h = tt
seen_later j e Gone h = tt
seen_later j e (Alive s) h = (mail_later j e s.mailbox h.0, marks_later j e s.marks h.1)

-- ---- answered labels

more : {j : List Entry} {a b : List Label} → AreAnswered j a → AreAnswered j b → AreAnswered j (a ++ b)
more nothing k = k
more (ended e h) k = ended e (more h k)
more (swept e h) k = swept e (more h k)
more (refused e h) k = refused e (more h k)
more (other e h) k = other e (more h k)

answered_later : {j : List Entry} {ls : List Label} (e : Entry) → AreAnswered j ls → AreAnswered (j ++ e ∷ []) ls
answered_later e nothing = nothing
answered_later {j = j} d (ended {i = i} {id = id} e h) = ended (id_later j d i id e) (answered_later d h)
answered_later {j = j} d (swept {i = i} {id = id} e h) = swept (id_later j d i id e) (answered_later d h)
answered_later {j = j} d (refused {i = i} {id = id} e h) = refused (id_later j d i id e) (answered_later d h)
answered_later d (other e h) = other e (answered_later d h)

-- ---- taking a message from a mailbox

known_rest : (j : List Entry) (p : Pattern) (mb : Mailbox) → MailKnown j mb → MailKnown j (without_accepted p mb)
known_rest j p [] h = tt
known_rest j p (m ∷ mb) h = by_test (accepted p m.1) h (known_rest j p mb h.1)
  where
    by_test : (b : Bool) → MailKnown j (m ∷ mb) → MailKnown j (without_accepted p mb) → MailKnown j (if b then mb else m ∷ without_accepted p mb)
    by_test true h k = h.1
    by_test false h k = (h.0, k)

known_first : (j : List Entry) (p : Pattern) (mb : Mailbox) (m : ℕ × FromEmacs) → first_accepted p mb ≡ Some m → MailKnown j mb → Known j m
known_first j p [] m e h = absurd (none≢some e)
known_first j p (n ∷ mb) m e h = by_test (accepted p n.1) e (λ f. known_first j p mb m f h.1)
  where
    by_test : (b : Bool) → (if b then Some n else first_accepted p mb) ≡ Some m → (first_accepted p mb ≡ Some m → Known j m) → Known j m
    by_test true e go = subst (Known j) (some_is e) h.0
    by_test false e go = go e

-- ---- moves

announced_other : (m : ToEmacs) (x : ℕ × ℕ) → announced_level m ≡ Some x → is_no_answer m ≡ true
announced_other (message.Debug t n text kind restarts frames continuations) x e = refl
announced_other m x e = absurd (none≢some e)

-- what a move tells is answered
tells : (j : List Entry) (t : ℕ) (m : Move) (ms : List Mark) (s : ℕ) (mb : Mailbox) → Fits t m ms s mb → SeenKnown j (Alive (before m ms s mb)) → AreAnswered j (told t m)
tells j t (move.Ends i id reply) ms s mb fits k = ended k.1.0 nothing
tells j t (move.Aborts i id) ms s mb fits k = ended k.1.0 nothing
tells j t (move.Sweeps i id form p thread) ms s mb fits k = swept (known_first j pattern.Rex mb (i, mail.Rex form p thread id) fits k.0) nothing
tells j t (move.Turns n) ms s mb fits k = other refl nothing
tells j t (move.Asks question.String tag text) ms s mb fits k = other refl nothing
tells j t (move.Asks question.YesNo tag text) ms s mb fits k = other refl nothing
tells j t (move.Unasked question.String tag) ms s mb fits k = other refl nothing
tells j t (move.Unasked question.YesNo tag) ms s mb fits k = nothing
tells j t (move.Begins i id p form q thread) ms s mb fits k = other refl nothing
tells j t (move.Hears i p m) ms s mb fits k = other refl nothing
tells j t (move.Opens n m) ms s mb fits k = other refl (other (announced_other m (t, n) fits.2) (other refl nothing))
tells j t (move.Closes n) ms s mb fits k = other refl (other refl nothing)
tells j t (move.Announces n m) ms s mb fits k = other (announced_other m (t, n) fits) (other refl nothing)
tells j t (move.Writes (Output text b)) ms s mb fits k = other refl nothing
tells j t (move.Writes (NewPackage name prompt)) ms s mb fits k = other refl nothing
tells j t (move.Protects n) ms s mb fits k = nothing
tells j t (move.Cleaned n) ms s mb fits k = nothing
tells j t (move.Answered kind tag) ms s mb fits k = nothing

-- and what it leaves is known
leaves : (j : List Entry) (t : ℕ) (m : Move) (ms : List Mark) (s : ℕ) (mb : Mailbox) → Fits t m ms s mb → SeenKnown j (Alive (before m ms s mb)) → SeenKnown j (Alive (after m ms s mb))
leaves j t (move.Begins i id p form q thread) ms s mb fits k = (known_rest j p mb k.0, (known_first j p mb (i, mail.Rex form q thread id) fits k.0, k.1))
leaves j t (move.Hears i p m) ms s mb fits k = (known_rest j p mb k.0, k.1)
leaves j t (move.Sweeps i id form q thread) ms s mb fits k = (known_rest j pattern.Rex mb k.0, k.1)
leaves j t (move.Ends i id reply) ms s mb fits k = (k.0, k.1.1)
leaves j t (move.Aborts i id) ms s mb fits k = (k.0, k.1.1)
leaves j t m ms s mb fits k = k

here : (past : List Entry) (e : Entry) (m : FromEmacs) → e.event ≡ Arrive m → Known (past ++ e ∷ []) (length past, m)
here past e (mail.Rex form p thread id) is = ap id_of (get-append_last past e) ∙ ap id_in is
here past e m is = tt

known_append : (j : List Entry) (a b : Mailbox) → MailKnown j a → MailKnown j b → MailKnown j (a ++ b)
known_append j [] b h k = k
known_append j (m ∷ a) b h k = (h.0, known_append j a b h.1 k)

note_other : (m : ToEmacs) → is_note m ≡ true → is_no_answer m ≡ true
note_other (message.DebugCondition t text) is = refl
note_other (message.ReaderError packet text) is = refl
note_other m is = absurd (cc)

law : IsLaw IsAnswered
law = record {
  moves = λ past t ls m ms s mb fits h. record { answered = more h.answered (tells past t m ms s mb fits h.known); known = leaves past t m ms s mb fits h.known };
  aside = λ past t u ls x m ms s mb fits ne g h. record { answered = more h.answered (tells past u m ms s mb fits g.known); known = h.known };
  later = λ past e t ls x none h. record { answered = answered_later e h.answered; known = seen_later past e x h.known };
  routed = λ past e t ls s m is h. record { answered = more (answered_later e h.answered) (other refl nothing); known = (known_append _ s.mailbox _ (mail_later past e s.mailbox h.known.0) (here past e m is, tt), marks_later past e s.marks h.known.1) };
  born = λ past e t ls m is h. record { answered = more (answered_later e h.answered) (other refl nothing); known = ((here past e m is, tt), tt) };
  routed_aside = λ past e t u ls x m is ne h. record { answered = more (answered_later e h.answered) (other refl nothing); known = seen_later past e x h.known };
  refused = λ past e t form p thread id text ls x is h. record { answered = more (answered_later e h.answered) (refused (here past e (mail.Rex form p thread id) is) nothing); known = seen_later past e x h.known };
  noted = λ past t ls m x is h. record { answered = more h.answered (other (note_other m is) nothing); known = h.known };
  broken = λ past t u ls x h. record { answered = more h.answered (other refl nothing); known = h.known };
  gone = λ past t ls s mb none h. record { answered = h.answered; known = tt };
  unborn = λ t. record { answered = nothing; known = tt };
  none = λ t. record { answered = nothing; known = tt };
  first = λ t. record { answered = nothing; known = (tt, tt) };
}

pub labels_are_answered : (rules : Rules) (image : ImageState) (j : List Entry) → AreAnswered j (labels rules image j)
labels_are_answered rules image j = (always rules IsAnswered law image j 0).answered
