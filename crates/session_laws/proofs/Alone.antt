-- A burst and a loan of a thread leave the others, and tell of that thread alone.
use Rattle.std.proofs.Common.{◌≡◌, ℕ, zero, suc, ◌≢◌, Bool, true, false, List, [], ◌∷◌, ◌++◌, Option, Some, None, refl, sym, ap, ◌∙◌, subst}
use Rattle.std.specs.Prelude.{slice_get}
use Rattle.rpc_messages.specs.declared.from_emacs.FromEmacs.TheVariants as mail
use Rattle.rpc_messages.specs.declared.to_emacs.ToEmacs.{ToEmacs}
use Rattle.rpc_messages.specs.declared.to_emacs.ToEmacs.TheVariants as message
use Rattle.term_model.specs.declared.question.Ask.TheVariants as question
use Rattle.term_model.specs.Breaks.{may_open}
use Rattle.term_model.specs.Label.{Label}
use Rattle.term_model.specs.Term.{split}
use Rattle.step_model.proofs.Paths.{as_built_path}
use Rattle.step_model.specs.Marks.{Mark, State, state_of}
use Rattle.step_model.specs.Moves as move
use Rattle.step_model.specs.Moves.{Move, Fits, Path, Phase, announced_level, go, stay, told}
use Rattle.step_model.specs.Now.{Mailbox, Now}
use Rattle.step_model.specs.Rules.{Rules, Output, NewPackage}
use Rattle.step_model.specs.AsBuilt.{step_as_built}
use Rattle.session_model.specs.Running.{broke_if, bursts, is_over, lends, lends_thread, now_of, returns, settles, step_of, steps, steps_once, swept, unlent}
use Rattle.session_model.specs.World.{Happened, Thread, World, silent, then, thread_at, with_thread}
use Rattle.session_laws.specs.ActsAlone.{AreOf, IsAlone, NamesOnly}
use Rattle.session_laws.proofs.SomeLemmas.{none≢some, some_is}
use Rattle.session_laws.proofs.StepFacts as facts
use Rattle.session_laws.proofs.StepFacts.{step_of_thread}
use Rattle.session_laws.proofs.Threads.{get-set_other}

of_append : (t : ℕ) (a b : List Label) → AreOf t a → AreOf t b → AreOf t (a ++ b)
of_append t [] b h k = k
of_append t (x ∷ a) b h k = (h.0, of_append t a b h.1 k)

announced_own : (t n : ℕ) (m : ToEmacs) → announced_level m ≡ Some (t, n) → NamesOnly t m
announced_own t n (message.Debug u k text kind restarts frames continuations) e = ap (λ (x : ℕ × ℕ). x.0) (some_is e)
announced_own t n m e = absurd (none≢some e)

told_own : (t : ℕ) (m : Move) (ms : List Mark) (s : ℕ) (mb : Mailbox) → Fits t m ms s mb → AreOf t (told t m)
told_own t (move.Turns k) ms s mb fits = (refl, tt)
told_own t (move.Asks question.String tag text) ms s mb fits = (refl, tt)
told_own t (move.Asks question.YesNo tag text) ms s mb fits = (refl, tt)
told_own t (move.Unasked question.String tag) ms s mb fits = (refl, tt)
told_own t (move.Unasked question.YesNo tag) ms s mb fits = tt
told_own t (move.Begins i id p form q thread) ms s mb fits = (refl, tt)
told_own t (move.Ends i id reply) ms s mb fits = (refl, (tt, tt))
told_own t (move.Aborts i id) ms s mb fits = (refl, (tt, tt))
told_own t (move.Hears i p m) ms s mb fits = (refl, tt)
told_own t (move.Opens n m) ms s mb fits = (refl, (announced_own t n m fits.2, (refl, tt)))
told_own t (move.Closes n) ms s mb fits = (refl, (refl, tt))
told_own t (move.Announces n m) ms s mb fits = (announced_own t n m fits, (refl, tt))
told_own t (move.Writes (Output text b)) ms s mb fits = (tt, tt)
told_own t (move.Writes (NewPackage name prompt)) ms s mb fits = (tt, tt)
told_own t (move.Sweeps i id form q thread) ms s mb fits = (refl, (tt, tt))
told_own t (move.Protects k) ms s mb fits = tt
told_own t (move.Cleaned k) ms s mb fits = tt
told_own t (move.Answered kind tag) ms s mb fits = tt

path_own : (t : ℕ) (a : State) (ls : List Label) (b : State) {ph : Phase} → Path t a ls b ph → AreOf t ls
path_own t a ls b stay = tt
path_own t a ls b (go {ls = old} m ms s mb p fits may) = of_append t old (told t m) (path_own t a old _ p) (told_own t m ms s mb fits)

swept_own : (t : ℕ) (mb : Mailbox) → AreOf t (swept t mb)
swept_own t [] = tt
swept_own t ((i, mail.Rex form p thread id) ∷ mb) = (refl, (tt, swept_own t mb))
swept_own t ((i, mail.Interrupt thread) ∷ mb) = swept_own t mb
swept_own t ((i, mail.ReturnString thread tag text) ∷ mb) = swept_own t mb
swept_own t ((i, mail.Return thread tag form) ∷ mb) = swept_own t mb
swept_own t ((i, mail.Unreadable packet text) ∷ mb) = swept_own t mb

silent_alone : (t : ℕ) (w : World) → IsAlone t w (silent w)
silent_alone t w = record { others = λ u ne. refl; labels = tt }

other_set : (w : World) (t u : ℕ) (o : Option Thread) → u ≢ t → slice_get (with_thread w t o).threads u ≡ slice_get w.threads u
other_set w t u o ne = get-set_other w.threads t u o (λ e. ne (sym e))

settles_alone : (w : World) (t : ℕ) (thread : Thread) (n : Now) (b : Bool) → AreOf t n.labels → IsAlone t w (settles w t thread n b)
settles_alone w t thread n false h = record { others = λ u ne. other_set w t u _ ne; labels = h }
settles_alone w t thread n true h = record { others = λ u ne. other_set w t u _ ne; labels = of_append t n.labels _ h (swept_own t n.mailbox) }

pub step_labels : (rules : Rules) (n : Now) → AreOf n.thread (step_as_built rules.built rules n).labels
step_labels rules n =
    let p = as_built_path rules.built rules n in
    let is : facts.IsOf n.thread (step_as_built rules.built rules n) = step_of_thread rules n in
    subst (λ u. AreOf u (step_as_built rules.built rules n).labels) is.0 (path_own (step_as_built rules.built rules n).thread (state_of n) (step_as_built rules.built rules n).labels (state_of (step_as_built rules.built rules n)) p.1)

step_alone : (rules : Rules) (w : World) (t : ℕ) (o : Option Thread) → IsAlone t w (step_of rules w t o)
step_alone rules w t None = silent_alone t w
step_alone rules w t (Some thread) =
    let n = step_as_built rules.built rules (now_of w t thread) in
    settles_alone w t thread n (is_over t n) (step_labels rules (now_of w t thread))

then_alone : (t : ℕ) (w : World) (h : Happened) (further : World → Happened) → IsAlone t w h → IsAlone t h.after (further h.after) → IsAlone t w (then h further)
then_alone t w h further a b = record {
  others = λ u ne. b.others u ne ∙ a.others u ne;
  labels = of_append t h.labels (further h.after).labels a.labels b.labels;
}

steps_alone : (rules : Rules) (n t : ℕ) (w : World) → IsAlone t w (steps rules n t w)
steps_alone rules zero t w = silent_alone t w
steps_alone rules (suc n) t w = then_alone t w (steps_once rules w t) (steps rules n t) (step_alone rules w t (thread_at w t)) (steps_alone rules n t (steps_once rules w t).after)

unlent_alone : (w : World) (t : ℕ) (o : Option Thread) → IsAlone t w (silent (unlent w t o))
unlent_alone w t None = silent_alone t w
unlent_alone w t (Some thread) = record { others = λ u ne. other_set w t u _ ne; labels = tt }

pub burst_alone : (rules : Rules) (w : World) (t n : ℕ) → IsAlone t w (bursts rules w t n)
burst_alone rules w t n =
    let v : World = (steps rules n t w).after in
    then_alone t w (steps rules n t w) (returns t) (steps_alone rules n t w) (unlent_alone v t (thread_at v t))

broke_own : (t n : ℕ) (b : Bool) → AreOf t (broke_if t n b)
broke_own t zero b = tt
broke_own t (suc n) true = (refl, tt)
broke_own t (suc n) false = tt

lends_alone : (most : ℕ) (w : World) (seat t : ℕ) (o : Option Thread) → IsAlone t w (lends_thread most w seat t o)
lends_alone most w seat t None = silent_alone t w
lends_alone most w seat t (Some thread) = record { others = λ u ne. other_set w t u _ ne; labels = broke_own t thread.interrupts (may_open most (split thread.term).0) }

pub lend_alone : (most : ℕ) (w : World) (seat t : ℕ) → IsAlone t w (lends most w seat t)
lend_alone most w seat t = lends_alone most w seat t (thread_at w t)
