-- A worker that ends answers the requests of its mailbox one after another.
use Rattle.std.proofs.Common.{◌≡◌, ℕ, ℤ, false, List, [], ◌∷◌, ◌++◌, Option, Some, None, refl, sym, ap, subst, append_assoc, append-nil}
use Rattle.lisp_data.specs.declared.sexp.Sexp.{Sexp}
use Rattle.mailboxes.specs.Mail.{first_accepted, without_accepted}
use Rattle.rpc_messages.specs.declared.from_emacs.FromEmacs.{FromEmacs}
use Rattle.rpc_messages.specs.declared.from_emacs.FromEmacs.TheVariants as mail
use Rattle.rpc_messages.specs.declared.from_emacs.ThreadName.{ThreadName}
use Rattle.rpc_messages.specs.declared.pattern.Pattern.TheVariants as pattern
use Rattle.rpc_messages.specs.declared.to_emacs.Returned.TheVariants as returned
use Rattle.rpc_messages.specs.declared.to_emacs.ToEmacs.TheVariants as message
use Rattle.term_model.specs.Label.{Label, Swept, Out}
use Rattle.step_model.specs.Marks.{Mark, State}
use Rattle.step_model.specs.Moves as move
use Rattle.step_model.specs.Moves.{Path, Phase, go}
use Rattle.step_model.specs.Now.{Mailbox}
use Rattle.session_model.specs.Running.{swept}
use Rattle.session_laws.proofs.SomeLemmas.{none≢some}

abbrev NoRequest : Mailbox → Type 0
NoRequest mb = first_accepted pattern.Rex mb ≡ None

-- a request behind mail that has none
first_past : (pre : Mailbox) (i : ℕ) (id : ℤ) (form : Sexp) (p : Option (List ℕ)) (name : ThreadName) (mb : Mailbox) → NoRequest pre
    → first_accepted pattern.Rex (pre ++ (i, mail.Rex form p name id) ∷ mb) ≡ Some (i, mail.Rex form p name id)
first_past [] i id form p name mb e = refl
first_past ((j, mail.Rex f q n k) ∷ pre) i id form p name mb e = absurd (none≢some (sym e))
first_past ((j, mail.Interrupt n) ∷ pre) i id form p name mb e = first_past pre i id form p name mb e
first_past ((j, mail.ReturnString n tag text) ∷ pre) i id form p name mb e = first_past pre i id form p name mb e
first_past ((j, mail.Return n tag f) ∷ pre) i id form p name mb e = first_past pre i id form p name mb e
first_past ((j, mail.Unreadable packet text) ∷ pre) i id form p name mb e = first_past pre i id form p name mb e

rest_past : (pre : Mailbox) (i : ℕ) (id : ℤ) (form : Sexp) (p : Option (List ℕ)) (name : ThreadName) (mb : Mailbox) → NoRequest pre
    → without_accepted pattern.Rex (pre ++ (i, mail.Rex form p name id) ∷ mb) ≡ pre ++ mb
rest_past [] i id form p name mb e = refl
rest_past ((j, mail.Rex f q n k) ∷ pre) i id form p name mb e = absurd (none≢some (sym e))
rest_past ((j, mail.Interrupt n) ∷ pre) i id form p name mb e = ap (λ l. (j, mail.Interrupt n) ∷ l) (rest_past pre i id form p name mb e)
rest_past ((j, mail.ReturnString n tag text) ∷ pre) i id form p name mb e = ap (λ l. (j, mail.ReturnString n tag text) ∷ l) (rest_past pre i id form p name mb e)
rest_past ((j, mail.Return n tag f) ∷ pre) i id form p name mb e = ap (λ l. (j, mail.Return n tag f) ∷ l) (rest_past pre i id form p name mb e)
rest_past ((j, mail.Unreadable packet text) ∷ pre) i id form p name mb e = ap (λ l. (j, mail.Unreadable packet text) ∷ l) (rest_past pre i id form p name mb e)

-- one more message that is no request
other_past : (pre : Mailbox) (i : ℕ) (m : FromEmacs) → move.is_request m ≡ false → NoRequest pre → NoRequest (pre ++ (i, m) ∷ [])
other_past [] i (mail.Rex f q n k) is e = absurd (cc)
other_past [] i (mail.Interrupt n) is e = refl
other_past [] i (mail.ReturnString n tag text) is e = refl
other_past [] i (mail.Return n tag f) is e = refl
other_past [] i (mail.Unreadable packet text) is e = refl
other_past ((j, mail.Rex f q n k) ∷ pre) i m is e = absurd (none≢some (sym e))
other_past ((j, mail.Interrupt n) ∷ pre) i m is e = other_past pre i m is e
other_past ((j, mail.ReturnString n tag text) ∷ pre) i m is e = other_past pre i m is e
other_past ((j, mail.Return n tag f) ∷ pre) i m is e = other_past pre i m is e
other_past ((j, mail.Unreadable packet text) ∷ pre) i m is e = other_past pre i m is e

abbrev state : List Mark → ℕ → Mailbox → State
state ms s mb = record { marks = ms; serial = s; mailbox = mb }

-- the thread came by moves to a mailbox without requests
abbrev pub Sweeps : ℕ → State → List Label → List Mark → ℕ → Phase → Type 0
Sweeps t from ls ms s ph = (left : Mailbox) × (first_accepted pattern.Rex left ≡ None) × Path t from ls (record { marks = ms; serial = s; mailbox = left }) ph

passed : {ph : Phase} (t : ℕ) (from : State) (ls : List Label) (ms : List Mark) (s : ℕ) (pre : Mailbox) (m : ℕ × FromEmacs) (mb : Mailbox)
    → Path t from ls (state ms s (pre ++ m ∷ mb)) ph → Path t from ls (state ms s ((pre ++ m ∷ []) ++ mb)) ph
passed {ph = ph} t from ls ms s pre m mb p = subst (λ l. Path t from ls (state ms s l) ph) (sym (append_assoc pre (m ∷ []) mb)) p

pub sweep_path : {ph : Phase} (t : ℕ) (from : State) (ls : List Label) (ms : List Mark) (s : ℕ) (pre mb : Mailbox) → NoRequest pre
    → Path t from ls (record { marks = ms; serial = s; mailbox = pre ++ mb }) ph → Sweeps t from (ls ++ swept t mb) ms s ph
sweep_path {ph = ph} t from ls ms s pre [] e p =
    (pre, e, subst (λ l. Path t from l (state ms s pre) ph) (sym (append-nil ls)) (subst (λ m. Path t from ls (state ms s m) ph) (append-nil pre) p))
sweep_path {ph = ph} t from ls ms s pre ((i, mail.Rex form q name id) ∷ mb) e p =
    let told : List Label = Swept t i ∷ Out (message.Return id returned.Abort) ∷ [] in
    subst (λ l. Sweeps t from l ms s ph) (append_assoc ls told (swept t mb))
    (sweep_path t from (ls ++ told) ms s pre mb e
    (subst (λ m. Path t from (ls ++ told) (state ms s m) ph) (rest_past pre i id form q name mb e)
    (go (move.Sweeps i id form q name) ms s (pre ++ (i, mail.Rex form q name id) ∷ mb) p (first_past pre i id form q name mb e) tt)))
sweep_path t from ls ms s pre ((i, mail.Interrupt n) ∷ mb) e p =
    sweep_path t from ls ms s (pre ++ (i, mail.Interrupt n) ∷ []) mb (other_past pre i (mail.Interrupt n) refl e) (passed t from ls ms s pre (i, mail.Interrupt n) mb p)
sweep_path t from ls ms s pre ((i, mail.ReturnString n tag text) ∷ mb) e p =
    sweep_path t from ls ms s (pre ++ (i, mail.ReturnString n tag text) ∷ []) mb (other_past pre i (mail.ReturnString n tag text) refl e) (passed t from ls ms s pre (i, mail.ReturnString n tag text) mb p)
sweep_path t from ls ms s pre ((i, mail.Return n tag f) ∷ mb) e p =
    sweep_path t from ls ms s (pre ++ (i, mail.Return n tag f) ∷ []) mb (other_past pre i (mail.Return n tag f) refl e) (passed t from ls ms s pre (i, mail.Return n tag f) mb p)
sweep_path t from ls ms s pre ((i, mail.Unreadable packet text) ∷ mb) e p =
    sweep_path t from ls ms s (pre ++ (i, mail.Unreadable packet text) ∷ []) mb (other_past pre i (mail.Unreadable packet text) refl e) (passed t from ls ms s pre (i, mail.Unreadable packet text) mb p)
