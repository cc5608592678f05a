-- What has been written and what is still to come.
use Rattle.std.proofs.Common.{◌≡◌, ◌≢◌, ◌↔◌, ◌<◌, ◌≤◌, Bool, true, false, subst, ℕ, ◌+◌, ◌-◌, ◌^◌, List, ◌++◌, length, refl, ap, ◌∙◌, sym, arith, length-append, append_assoc}
use Rattle.std.specs.Prelude.{min, nat_lt, if◌then◌else◌, Result, Ok, Err, IfOk}
use Rattle.std.proofs.lemmas.Bool.{lt-ltb, ltb-true}
use Rattle.std.specs.Str.{chars}
use Rattle.lisp_data.specs.Sexp.{capped}
use Rattle.lisp_format.specs.Formatted.{preceded, text_from, within_limit, formatted}
use Rattle.lisp_format.specs.Passes.{reckoned, Obeys, GoesOn, Writes, piece_text}
use Rattle.lisp_data.specs.declared.value.Value.{Value}
use Rattle.lisp_errors.specs.Limits.{max_weight}
use Rattle.lisp_format.specs.Directives.{directive_of}
use Rattle.lisp_format.specs.declared.directive.Directive.{Directive}
use Rattle.lisp_format.specs.declared.piece.Step.{Step}
use Rattle.lisp_format.specs.declared.fault.FormatFault.TheVariants.{BadDirective, TooFewArguments, TooLong, NoMemory}
use Rattle.lisp_format.specs.declared.fault.FormatFault.{FormatFault}

-- what is cut off at one sum is cut off at the next
absorbs : (t e o : ℕ) → capped (min (t + capped e) (2 ^ 64 - 1) + o) ≡ capped (t + (e + o))
absorbs t e o = omega arith

pub reckoned_preceded : (total : ℕ) (text : List ℕ) (rest : Result (List ℕ) FormatFault) → reckoned (min (total + capped (length text)) (2 ^ 64 - 1)) rest ≡ reckoned total (preceded text rest)
reckoned_preceded total text (Ok more) = ap (λ n. Ok n) (absorbs total (length text) (length more) ∙ ap (λ n. capped (total + n)) (sym (length-append text more)))
reckoned_preceded total text (Err fault) = refl

pub preceded_twice : (first second : List ℕ) (rest : Result (List ℕ) FormatFault) → preceded (first ++ second) rest ≡ preceded first (preceded second rest)
preceded_twice first second (Ok more) = ap (λ l. Ok l) (append_assoc first second more)
preceded_twice first second (Err fault) = refl

-- what a directive does is what the character after a tilde does
obeyed_goes_on : (c : ℕ) (values : List Value) (r : Result Step FormatFault) → Obeys (directive_of c) values r → GoesOn true c values r
unfolding text_from
obeyed_goes_on c values (Ok s) h = λ current cs. ap (λ (b : Bool). preceded (piece_text current s.piece) (text_from current b cs s.left.now)) (h current (text_from current false cs)).0 ∙ (h current (text_from current false cs)).1
obeyed_goes_on c values (Err fault) h = λ current cs. h current (text_from current false cs)

pub goes_on : (after_tilde : Bool) (directive : Directive) (c : ℕ) (values : List Value) (r : Result Step FormatFault) → after_tilde ≡ true → directive ≡ directive_of c → Obeys directive values r → GoesOn after_tilde c values r
goes_on after_tilde directive c values r after is h =
    let ByDirective : Directive → Type 0 = λ d. Obeys d values r in
    let ByTilde : Bool → Type 0 = λ b. GoesOn b c values r in
    subst ByTilde (sym after) (obeyed_goes_on c values r (subst ByDirective is h))

-- a fault of the first pass is the fault
pub formatted-fault : (current control : List ℕ) (values : List Value) (fault : FormatFault) → Err fault ≡ reckoned 0 (text_from current false (chars control) values) → formatted current control values ≡ Err fault
unfolding formatted
formatted-fault current control values fault e = faulty (text_from current false (chars control) values) e where
  faulty : (r : Result (List ℕ) FormatFault) → Err fault ≡ reckoned 0 r → within_limit r ≡ Err fault
  faulty (Ok text) e = cc
  faulty (Err other) e = cc

-- a fault is what is told of it
pub writes-fault : (fault : FormatFault) (answer : Result (List ℕ) FormatFault) → answer ≡ Err fault → Writes (Err fault) answer
writes-fault BadDirective answer e = e
writes-fault TooFewArguments answer e = e
writes-fault TooLong answer e = e
writes-fault NoMemory answer e = tt

told-fault : (fault : FormatFault) (answer : Result (List ℕ) FormatFault) → fault ≢ NoMemory → Writes (Err fault) answer → answer ≡ Err fault
told-fault BadDirective answer ne e = e
told-fault TooFewArguments answer ne e = e
told-fault TooLong answer ne e = e
told-fault NoMemory answer ne e = absurd (ne refl)

-- a text whose length is over the limit is too long
pub formatted-long : (current control : List ℕ) (values : List Value) (n : ℕ) → Ok n ≡ reckoned 0 (text_from current false (chars control) values) → 2 ^ 20 ≤ n → formatted current control values ≡ Err TooLong
unfolding formatted
formatted-long current control values n e h = long (text_from current false (chars control) values) e where
  long : (r : Result (List ℕ) FormatFault) → Ok n ≡ reckoned 0 r → within_limit r ≡ Err TooLong
  long (Ok text) e =
      let size : n ≡ capped (0 + length text) = cc in
      let over : max_weight < 1 + length text = omega arith in
      ap (λ (b : Bool). if b then Err TooLong else Ok text) (lt-ltb max_weight (1 + length text) over)
  long (Err other) e = cc

-- one whose length is within it is the text
pub formatted-short : (current control : List ℕ) (values : List Value) (n : ℕ) → Ok n ≡ reckoned 0 (text_from current false (chars control) values) → n < 2 ^ 20 → formatted current control values ≡ text_from current false (chars control) values
unfolding formatted
formatted-short current control values n e h = short (text_from current false (chars control) values) e where
  choice : (b : Bool) (text : List ℕ) → (b ≡ true → max_weight < 1 + length text) → 1 + length text ≤ max_weight → (if b then Err TooLong else Ok text) ≡ Ok text
  choice true text meant h = absurd (let over : max_weight < 1 + length text = meant refl in omega arith)
  choice false text meant h = refl

  short : (r : Result (List ℕ) FormatFault) → Ok n ≡ reckoned 0 r → within_limit r ≡ r
  short (Ok text) e =
      let size : n ≡ capped (0 + length text) = cc in
      let within : 1 + length text ≤ max_weight = omega arith in
      choice (nat_lt max_weight (1 + length text)) text (ltb-true max_weight (1 + length text)) within
  short (Err other) e = cc

-- which refusal it is, where there is one
pub exact : (result : Result (List ℕ) FormatFault) (fault cause : FormatFault) (answer : Result (List ℕ) FormatFault) → result ≡ Err fault → answer ≡ Err fault → (result ≡ Err cause) ↔ (answer ≡ Err cause)
exact result fault cause answer is told = (λ h. told ∙ (sym is ∙ h), λ h. is ∙ (sym told ∙ h))

-- what the second pass tells is so
pub told-text : (result answer whole : Result (List ℕ) FormatFault) → Writes result answer → whole ≡ answer → IfOk result (λ text. whole ≡ Ok text)
told-text (Ok text) answer whole e is = is ∙ e
told-text (Err fault) answer whole e is = tt

pub told-refusal : (result answer whole : Result (List ℕ) FormatFault) (n : ℕ) (cause : FormatFault) → cause ≢ NoMemory → Ok n ≡ reckoned 0 answer → Writes result answer → whole ≡ answer → (result ≡ Err cause) ↔ (whole ≡ Err cause)
told-refusal result answer whole n cause ne size told is = (
  λ h. is ∙ told-fault cause answer ne (let Told : Result (List ℕ) FormatFault → Type 0 = λ r. Writes r answer in subst Told h told),
  λ h. absurd (impossible (ap (λ r. reckoned 0 r) (sym is ∙ h) ∙ refl)),
) where
  impossible : reckoned 0 answer ≡ Err cause → ⊥
  impossible wrong = cc
