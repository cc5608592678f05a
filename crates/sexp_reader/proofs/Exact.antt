-- What is read is exactly what texts spell, and the faults are exactly theirs.
use Rattle.std.proofs.Common.{◌≡◌, ℕ, Bool, true, false, ◌==◌, ◌⊎◌, inl, inr, List, [], ◌∷◌, ◌++◌, refl, sym, ap, subst, ◌∙◌, arith, append_assoc}
use Rattle.std.specs.Prelude.{Ok, Err, Result, IfOk, IfErr}
use Rattle.std.proofs.lemmas.List.{append-nil}
use Rattle.lisp_data.specs.declared.sexp.Sexp.{Sexp}
use Rattle.sexp_reader.specs.declared.fault.ReadFault.{ReadFault}
use Rattle.sexp_reader.specs.declared.fault.ReadFault.TheVariants.{End, Unclosed, StrayClose, BadToken, TooDeep, NumberTooWide, TrailingText, NoMemory}
use Rattle.sexp_reader.specs.declared.placed.Placed.{Placed}
use Rattle.sexp_reader.specs.declared.state.Forms.{Forms}
use Rattle.sexp_reader.specs.Answers.{Answers, Fails, Gives, ◌>>=◌}
use Rattle.sexp_reader.specs.Grammar as g
use Rattle.sexp_reader.specs.Grammar.{Gap, Spells, IsSpelled, SpellsAll, AreSpelled, place}
use Rattle.sexp_reader.specs.Faults as f
use Rattle.sexp_reader.specs.Faults.{Mark, Stops, IsFault, IsFaultAmong}
use Rattle.sexp_reader.specs.Tokens.{is_space}
use Rattle.sexp_reader.specs.Reading.{ready, start, is_full, complete, run, read_of, first_of_forms, form_of}
use Rattle.sexp_reader.proofs.BoolLemmas.{or-false}
use Rattle.sexp_reader.proofs.ReadingLemmas.{run-err, run-nil}
use Rattle.sexp_reader.proofs.Spelled.{gap-run, spells-run}
use Rattle.sexp_reader.proofs.Steps.{trailing, finish-ready}
use Rattle.sexp_reader.proofs.Stopped.{breaks-run}
use Rattle.sexp_reader.proofs.Total.{one-or-fault, all-or-fault}

abbrev none_yet : Bool → Forms
none_yet many = record { many = many; begun = 0; placed = [] }

none-full : (many : Bool) → is_full (none_yet many) ≡ false
unfolding is_full
none-full true = refl
none-full false = refl

many-free : (forms : Forms) → forms.many ≡ true → is_full forms ≡ false
unfolding is_full
many-free forms h = rw h refl

one-full : (at : ℕ) (x : Sexp) → is_full (record { many = false; begun = at; placed = record { form = x; at = at } ∷ [] }) ≡ true
unfolding is_full
one-full at x = refl

-- a form that stands in no other
alone-run : {u rest : List ℕ} {x : Sexp} → Spells 500 u x rest → (text : List ℕ) (forms : Forms) → is_full forms ≡ false
    → run text (ready [] forms) u ≡ run text (ready [] (record { many = forms.many; begun = place text u; placed = forms.placed ++ record { form = x; at = place text u } ∷ [] })) rest
unfolding complete
alone-run w text forms free = spells-run w text [] forms free (omega arith)

-- ---- one form

one-run : {text before after : List ℕ} {x : Sexp} → Gap text before → Spells 500 before x after
    → run text (start false) text ≡ run text (ready [] (record { many = false; begun = place text before; placed = record { form = x; at = place text before } ∷ [] })) after
one-run {text} gap w = gap-run gap text [] (none_yet false) ∙ alone-run w text (none_yet false) (none-full false)

spelled-form : (text : List ℕ) (x : Sexp) → IsSpelled text x → form_of text ≡ Ok x
spelled-form text x w =
    let at = place text w.before in
    let forms : Forms = record { many = false; begun = at; placed = record { form = x; at = at } ∷ [] } in
    let read : run text (start false) text ≡ Ok (record { form = x; at = at } ∷ []) =
    one-run w.leads w.spells ∙ (gap-run w.ends text [] forms ∙ (run-nil text (ready [] forms) ∙ finish-ready forms)) in
    ap (λ r. r >>= first_of_forms) read

fault-form : (text : List ℕ) (fault : ReadFault) → IsFault text fault → form_of text ≡ Err fault
fault-form text _ (f.ends gap) =
    let read : run text (start false) text ≡ Ok [] = gap-run gap text [] (none_yet false) ∙ (run-nil text (start false) ∙ finish-ready (none_yet false)) in
    ap (λ r. r >>= first_of_forms) read
fault-form text _ (f.breaks fault b) = ap (λ r. r >>= first_of_forms) (breaks-run b text (none_yet false) (none-full false))
fault-form text _ (f.trails before after x c rest leads w gap solid) =
    let at = place text before in
    let forms : Forms = record { many = false; begun = at; placed = record { form = x; at = at } ∷ [] } in
    let parts = or-false (is_space c) (c == 59) solid in
    let read : run text (start false) text ≡ Err TrailingText =
    one-run leads w ∙ (gap-run gap text [] forms ∙ run-err text (ready [] forms) c rest TrailingText (trailing [] forms (place text (c ∷ rest)) c (one-full at x) parts.0 parts.1)) in
    ap (λ r. r >>= first_of_forms) read

-- ---- forms one after another

spells-all : {text u : List ℕ} {more : List Placed} → SpellsAll text u more → (forms : Forms) → forms.many ≡ true → run text (ready [] forms) u ≡ Ok (forms.placed ++ more)
spells-all {text} (g.ends u gap) forms many =
    gap-run gap text [] forms ∙ (run-nil text (ready [] forms) ∙ (finish-ready forms ∙ ap (λ l. Ok l) (sym (append-nil forms.placed))))
spells-all {text} (g.next u inner after x more gap w next) forms many =
    let at = place text inner in
    let placed : Placed = record { form = x; at = at } in
    gap-run gap text [] forms ∙ (alone-run w text forms (many-free forms many)
    ∙ (spells-all next (record { many = forms.many; begun = at; placed = forms.placed ++ placed ∷ [] }) many ∙ ap (λ l. Ok l) (append_assoc forms.placed (placed ∷ []) more)))

fault-all : {u : List ℕ} {fault : ReadFault} → IsFaultAmong u fault → (text : List ℕ) (forms : Forms) → forms.many ≡ true → run text (ready [] forms) u ≡ Err fault
fault-all (f.breaks u fault b) text forms many = breaks-run b text forms (many-free forms many)
fault-all (f.next u inner after x fault gap w next) text forms many =
    let at = place text inner in
    gap-run gap text [] forms ∙ (alone-run w text forms (many-free forms many)
    ∙ fault-all next text (record { many = forms.many; begun = at; placed = forms.placed ++ record { form = x; at = at } ∷ [] }) many)

-- ---- both ways

-- reading gives a value exactly where P holds of it, and a fault exactly where Q does
pub record Exact {A : Type 0} (read : Result A ReadFault) (P : A → Type 0) (Q : ReadFault → Type 0) : Type 0 where
  pub from_ok : (x : A) → read ≡ Ok x → P x
  pub from_err : (fault : ReadFault) → read ≡ Err fault → Q fault
  pub to_ok : (x : A) → P x → read ≡ Ok x
  pub to_err : (fault : ReadFault) → Q fault → read ≡ Err fault

clash : {A B : Type 0} (x : A) (fault : ReadFault) (read : Result A ReadFault) → read ≡ Ok x → read ≡ Err fault → B
clash x fault read a b = absurd (cc)

same-value : {A : Type 0} (x y : A) (read : Result A ReadFault) → read ≡ Ok x → read ≡ Ok y → x ≡ y
same-value x y read a b = cc

same-fault : {A : Type 0} (x y : ReadFault) (read : Result A ReadFault) → read ≡ Err x → read ≡ Err y → x ≡ y
same-fault x y read a b = cc

exact-of : {A : Type 0} (read : Result A ReadFault) (P : A → Type 0) (Q : ReadFault → Type 0) → ((x : A) × P x) ⊎ ((fault : ReadFault) × Q fault) → ((x : A) → P x → read ≡ Ok x)
    → ((fault : ReadFault) → Q fault → read ≡ Err fault) → Exact read P Q
exact-of read P Q (inl found) ok err = record {
  from_ok = λ x e. subst P (same-value found.0 x read (ok found.0 found.1) e) found.1;
  from_err = λ fault e. clash found.0 fault read (ok found.0 found.1) e;
  to_ok = ok;
  to_err = err;
}
exact-of read P Q (inr found) ok err = record {
  from_ok = λ x e. clash x found.0 read e (err found.0 found.1);
  from_err = λ fault e. subst Q (same-fault found.0 fault read (err found.0 found.1) e) found.1;
  to_ok = ok;
  to_err = err;
}

pub exact-form : (text : List ℕ) → Exact (form_of text) (IsSpelled text) (IsFault text)
exact-form text = exact-of (form_of text) (IsSpelled text) (IsFault text) (one-or-fault text) (spelled-form text) (fault-form text)

pub exact-forms : (text : List ℕ) → Exact (read_of true text) (AreSpelled text) (IsFaultAmong text)
exact-forms text =
    exact-of (read_of true text) (AreSpelled text) (IsFaultAmong text) (all-or-fault text)
    (λ forms w. spells-all w (none_yet true) refl) (λ fault w. fault-all w text (none_yet true) refl)

-- ---- answers

fails-is : {A : Type 0} (fault : ReadFault) (read : Result A ReadFault) → Fails fault read → (read ≡ Err fault) ⊎ (fault ≡ NoMemory)
fails-is End read h = inl h
fails-is Unclosed read h = inl h
fails-is StrayClose read h = inl h
fails-is BadToken read h = inl h
fails-is TooDeep read h = inl h
fails-is NumberTooWide read h = inl h
fails-is TrailingText read h = inl h
fails-is NoMemory read h = inr refl

pub ok-is : {A : Type 0} {read : Result A ReadFault} {P : A → Type 0} {Q : ReadFault → Type 0} → Exact read P Q → (result : Result A ReadFault) → Gives (λ x. x) result read → IfOk result P
ok-is exact (Ok x) h = exact.from_ok x h
ok-is exact (Err fault) h = tt

pub err-is : {A : Type 0} {read : Result A ReadFault} {P : A → Type 0} {Q : ReadFault → Type 0} → Exact read P Q → (result : Result A ReadFault) → Gives (λ x. x) result read
    → IfErr result (λ fault. Q fault ⊎ (fault ≡ NoMemory))
err-is exact (Ok x) h = tt
err-is {read = read} exact (Err fault) h = elim (fails-is fault read h) [ inl e ↦ inl (exact.from_err fault e) | inr e ↦ inr e ]

pub answers : {A : Type 0} (read result : Result A ReadFault) → Gives (λ x. x) result read → Answers read result
answers read (Ok x) h = inl (sym h)
answers read (Err fault) h = elim (fails-is fault read h) [ inl e ↦ inl (sym e) | inr e ↦ inr (ap (λ w. Err w) e) ]

pub is-ok : {A : Type 0} {read : Result A ReadFault} {P : A → Type 0} {Q : ReadFault → Type 0} → Exact read P Q → (result : Result A ReadFault) → Gives (λ x. x) result read
    → (x : A) → P x → Answers (Ok x) result
is-ok {read = read} exact result h x p = subst (λ w. Answers w result) (exact.to_ok x p) (answers read result h)

pub is-err : {A : Type 0} {read : Result A ReadFault} {P : A → Type 0} {Q : ReadFault → Type 0} → Exact read P Q → (result : Result A ReadFault) → Gives (λ x. x) result read
    → (fault : ReadFault) → Q fault → Answers (Err fault) result
is-err {read = read} exact result h fault q = subst (λ w. Answers w result) (exact.to_err fault q) (answers read result h)

-- ---- one of both, and once

pub one-value : {A : Type 0} {read : Result A ReadFault} {P : A → Type 0} {Q : ReadFault → Type 0} → Exact read P Q → (x y : A) → P x → P y → x ≡ y
one-value {read = read} exact x y p q = same-value x y read (exact.to_ok x p) (exact.to_ok y q)

pub one-fault : {A : Type 0} {read : Result A ReadFault} {P : A → Type 0} {Q : ReadFault → Type 0} → Exact read P Q → (x y : ReadFault) → Q x → Q y → x ≡ y
one-fault {read = read} exact x y p q = same-fault x y read (exact.to_err x p) (exact.to_err y q)

pub not-both : {A : Type 0} {read : Result A ReadFault} {P : A → Type 0} {Q : ReadFault → Type 0} → Exact read P Q → (x : A) (fault : ReadFault) → P x → Q fault → ⊥
not-both {read = read} exact x fault p q = clash x fault read (exact.to_ok x p) (exact.to_err fault q)

-- ---- faults that no form has

-- whether it is one of those that a form can have
abbrev is_of_form : ReadFault → Bool
is_of_form End = false
is_of_form TrailingText = false
is_of_form NoMemory = false
is_of_form _ = true

stops-form : {n : ℕ} {marks : List Mark} {u : List ℕ} {fault : ReadFault} → Stops n marks u fault → is_of_form fault ≡ true
stops-form (f.ends_inside n mark marks) = refl
stops-form (f.ends_in_string n marks u unended) = refl
stops-form (f.closes_nothing n u) = refl
stops-form (f.closes_quote n marks u) = refl
stops-form (f.bad_token n marks u token rest plain w bad) = refl
stops-form (f.deep_list marks u) = refl
stops-form (f.deep_quote marks u) = refl
stops-form (f.deep_function marks u) = refl
stops-form (f.wide_number n marks u token rest z w few is wide) = refl

among-form : {u : List ℕ} {fault : ReadFault} → IsFaultAmong u fault → is_of_form fault ≡ true
among-form (f.breaks u fault b) = stops-form b.stops
among-form (f.next u inner after x fault gap w next) = among-form next

not-of-form : (fault other : ReadFault) → is_of_form fault ≡ true → is_of_form other ≡ false → ¬ (fault ≡ other)
not-of-form fault other h g e = let same = ap is_of_form e in absurd (cc)

pub never-is : {read : Result (List Placed) ReadFault} {P : List Placed → Type 0} {u : List ℕ} → Exact read P (IsFaultAmong u) → (result : Result (List Placed) ReadFault) → Gives (λ x. x) result read
    → IfErr result (λ fault. ¬ (fault ≡ End) × ¬ (fault ≡ TrailingText))
never-is exact (Ok x) h = tt
never-is {read = read} exact (Err fault) h = elim (fails-is fault read h) [
  | inl e ↦ let of = among-form (exact.from_err fault e) in (not-of-form fault End of refl, not-of-form fault TrailingText of refl)
  | inr e ↦ ((λ w. let same = sym e ∙ w in absurd (cc)), (λ w. let same = sym e ∙ w in absurd (cc)))
]
