-- The forms of a text are those that it spells, and its fault is the one that it has.
use Rattle.std.proofs.Common.{◌≡◌, ◌≢◌, ◌∙◌, ℕ, ◌⊎◌, inl, inr, Bool, true, false, not, List, [], ◌∷◌, chars, ap, refl, sym}
use Rattle.std.specs.Prelude.{Result, Ok, Err, IfOk, IfErr, ◌↔◌, IsTrue}
use Rattle.sexp_reader.specs.Answers.{Fails, Gives}
use Rattle.sexp_reader.specs.Faults.{IsFaultAmong}
use Rattle.sexp_reader.specs.Grammar.{AreSpelled}
use Rattle.sexp_reader.specs.declared.fault.ReadFault.{ReadFault}
use Rattle.sexp_reader.specs.declared.fault.ReadFault.TheVariants.{End, Unclosed, StrayClose, BadToken, TooDeep, NumberTooWide, TrailingText, NoMemory}
use Rattle.sexp_reader.specs.declared.placed.Placed.{Placed}
use Rattle.sexp_reader.proofs.Exact.{exact-forms, not-both, one-fault, one-value}
use Rattle.sexp_reader.proofs.Total.{all-or-fault}
use Rattle.sexp_reader.specs.Names.{fault_name}
use Rattle.lisp_data.specs.declared.sexp.Sexp.{Sexp}
use Rattle.lisp_data.specs.declared.value.Condition.{Condition}
use Rattle.lisp_errors.specs.Causes.{reader_fault}
use Rattle.swank_rpc.specs.declared.answer.Answer.TheVariants as answer
use Rattle.swank_rpc.specs.Commands.{answer_of, evaluated, is_some_form}
use Rattle.swank_rpc.specs.Kept.{kept}
use Rattle.swank_rpc.specs.Texts.{Reading, forms_of, read_as}

spelled : (text : List ℕ) (r : Reading text) (forms : List Placed) → AreSpelled text forms → read_as r ≡ Ok forms
spelled text (inl found) forms w = ap (λ x. Ok x) (one-value (exact-forms text) found.0 forms found.1 w)
spelled text (inr broken) forms w = absurd (not-both (exact-forms text) forms broken.0 w broken.1)

faulty : (text : List ℕ) (r : Reading text) (fault : ReadFault) → IsFaultAmong text fault → read_as r ≡ Err fault
faulty text (inl found) fault w = absurd (not-both (exact-forms text) found.0 fault found.1 w)
faulty text (inr broken) fault w = ap (λ x. Err x) (one-fault (exact-forms text) broken.0 fault broken.1 w)

pub forms_of-spelled : (text : List ℕ) (forms : List Placed) → AreSpelled (chars text) forms → forms_of text ≡ Ok forms
unfolding forms_of
forms_of-spelled text forms w = spelled (chars text) (all-or-fault (chars text)) forms w

pub forms_of-faulty : (text : List ℕ) (fault : ReadFault) → IsFaultAmong (chars text) fault → forms_of text ≡ Err fault
unfolding forms_of
forms_of-faulty text fault w = faulty (chars text) (all-or-fault (chars text)) fault w

fails : (read : Result (List Placed) ReadFault) (fault : ReadFault) → (read ≡ Err fault) ⊎ (fault ≡ NoMemory) → Fails fault read
fails read End (inl e) = e
fails read End (inr e) = absurd (cc)
fails read Unclosed (inl e) = e
fails read Unclosed (inr e) = absurd (cc)
fails read StrayClose (inl e) = e
fails read StrayClose (inr e) = absurd (cc)
fails read BadToken (inl e) = e
fails read BadToken (inr e) = absurd (cc)
fails read TooDeep (inl e) = e
fails read TooDeep (inr e) = absurd (cc)
fails read NumberTooWide (inl e) = e
fails read NumberTooWide (inr e) = absurd (cc)
fails read TrailingText (inl e) = e
fails read TrailingText (inr e) = absurd (cc)
fails read NoMemory _ = tt

fault-of : (text : List ℕ) (fault : ReadFault) → IsFaultAmong (chars text) fault ⊎ (fault ≡ NoMemory) → (forms_of text ≡ Err fault) ⊎ (fault ≡ NoMemory)
fault-of text fault (inl w) = inl (forms_of-faulty text fault w)
fault-of text fault (inr e) = inr e

-- what reading answers are the forms of the text
pub gives-forms : (text : List ℕ) (result : Result (List Placed) ReadFault) → IfOk result (AreSpelled (chars text)) → IfErr result (λ fault. IsFaultAmong (chars text) fault ⊎ (fault ≡ NoMemory))
    → Gives (λ forms. forms) result (forms_of text)
gives-forms text (Ok forms) w _ = forms_of-spelled text forms w
gives-forms text (Err fault) _ w = fails (forms_of text) fault (fault-of text fault w)

-- a fault that is no want of memory is the text's
pub fault-exact : (read : Result (List Placed) ReadFault) (fault : ReadFault) → Fails fault read → fault ≢ NoMemory → read ≡ Err fault
fault-exact read End e h = e
fault-exact read Unclosed e h = e
fault-exact read StrayClose e h = e
fault-exact read BadToken e h = e
fault-exact read TooDeep e h = e
fault-exact read NumberTooWide e h = e
fault-exact read TrailingText e h = e
fault-exact read NoMemory e h = absurd (h refl)

-- whether there is a form, by the test for none
pub some-form : (none : Bool) (forms : List Placed) → (IsTrue none ↔ (forms ≡ [])) → not none ≡ is_some_form forms
some-form true [] h = refl
some-form false [] h = let e : false ≡ true = h.1 refl in absurd (cc)
some-form true (p ∷ ps) h = let e : (p ∷ ps) ≡ [] = h.0 refl in absurd (cc)
some-form false (p ∷ ps) h = refl

-- the answer of a text that has forms
pub evaluated-forms : (text global : List ℕ) (forms : List Placed) (none : Bool) (name : List ℕ) (k : Sexp) → forms_of text ≡ Ok forms → (IsTrue none ↔ (forms ≡ [])) → name ≡ global → k ≡ kept (not none) name
    → answer.Run forms k ≡ answer_of (evaluated global (forms_of text))
evaluated-forms text global forms none name k read empty named is =
    ap (λ (x : Sexp). answer.Run forms x) (is ∙ (ap (λ (b : Bool). kept b name) (some-form none forms empty) ∙ ap (λ (n : List ℕ). kept (is_some_form forms) n) named))
    ∙ sym (ap (λ r. answer_of (evaluated global r)) read)

-- the answer of a text that has a fault
pub evaluated-fault : (text global : List ℕ) (fault : ReadFault) (c : Condition) → Fails fault (forms_of text) → fault ≢ NoMemory → c ≡ reader_fault (fault_name fault)
    → answer.Raised c ≡ answer_of (evaluated global (forms_of text))
evaluated-fault text global fault c read h is =
    ap (λ (x : Condition). answer.Raised x) is ∙ sym (ap (λ r. answer_of (evaluated global r)) (fault-exact (forms_of text) fault read h))
