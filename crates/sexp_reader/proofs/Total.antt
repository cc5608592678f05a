-- Each text spells a form or has a fault.
use Rattle.std.proofs.Common.{◌≡◌, ℕ, zero, suc, ◌+◌, ◌*◌, ◌<◌, ◌≤◌, false, ◌==◌, ◌⊎◌, inl, inr, List, [], ◌∷◌, length, refl, sym, subst, arith, codes, encode_utf8_all}
use Rattle.std.proofs.lemmas.Bool.{eqb-true}
use Rattle.lisp_data.specs.declared.sexp.Sexp.{Sexp}
use Rattle.lisp_data.specs.declared.sexp.Sexp.TheVariants as form
use Rattle.sexp_reader.specs.declared.fault.ReadFault.{ReadFault}
use Rattle.sexp_reader.specs.declared.fault.ReadFault.TheVariants.{End, Unclosed, StrayClose, BadToken, TooDeep, NumberTooWide, TrailingText}
use Rattle.sexp_reader.specs.declared.placed.Placed.{Placed}
use Rattle.sexp_reader.specs.Tokens.{is_space, ends_token, uppercase}
use Rattle.sexp_reader.specs.Grammar as g
use Rattle.sexp_reader.specs.Grammar.{Gap, Body, Taken, Token, Spells, Items, IsSpelled, SpellsAll, quoted, place}
use Rattle.sexp_reader.specs.Faults as f
use Rattle.sexp_reader.specs.Faults.{Mark, Reaches, Unended, Stops, Breaks, IsFault, IsFaultAmong, begins_function}
use Rattle.sexp_reader.proofs.BoolLemmas.{decide}
use Rattle.sexp_reader.proofs.AtomLemmas as k
use Rattle.sexp_reader.proofs.AtomLemmas.{Kind, kind-of}

-- ---- gaps

-- whitespace and comments end here
abbrev pub Solid : List ℕ → Type 0
Solid [] = Unit {0}
Solid (c ∷ t) = (is_space c ≡ false) × ((c == 59) ≡ false)

comment-found : (t : List ℕ) → (after : List ℕ) × g.Comment t after × (length after ≤ length t)
comment-found [] = ([], g.at_end, omega arith)
comment-found (c ∷ t) = elim (decide (c == 10)) [
  | inl e ↦ let is : c ≡ 10 = eqb-true c 10 e in
      subst (λ d. (after : List ℕ) × g.Comment (d ∷ t) after × (length after ≤ length (d ∷ t))) (sym is) (10 ∷ t, g.at_newline t, omega arith)
  | inr e ↦ let more = comment-found t in (more.0, g.goes_on c t more.0 e more.1, let h = more.2 in omega arith)
]

gap-within : (k : ℕ) (t : List ℕ) → length t ≤ k → (rest : List ℕ) × Gap t rest × Solid rest × (length rest ≤ length t)
gap-within k [] h = ([], g.nothing [], tt, omega arith)
gap-within zero (c ∷ t) h = absurd (omega arith)
gap-within (suc k) (c ∷ t) h = elim (decide (is_space c)) [
  | inl e ↦ let more = gap-within k t (omega arith) in (more.0, g.space c t more.0 e more.1, more.2, let l = more.3 in omega arith)
  | inr e ↦ elim (decide (c == 59)) [
    | inl d ↦ let is : c ≡ 59 = eqb-true c 59 d in
        let found = comment-found t in
        let shorter = found.2 in
        let more = gap-within k found.0 (omega arith) in
        subst (λ b. (rest : List ℕ) × Gap (b ∷ t) rest × Solid rest × (length rest ≤ length (b ∷ t))) (sym is)
        (more.0, g.comment t found.0 more.0 found.1 more.1, more.2, let l = more.3 in omega arith)
    | inr d ↦ (c ∷ t, g.nothing (c ∷ t), (e, d), omega arith)
  ]
]

pub gap-found : (t : List ℕ) → (rest : List ℕ) × Gap t rest × Solid rest × (length rest ≤ length t)
gap-found t = gap-within (length t) t (omega arith)

-- ---- strings

-- a string has an end quote, or the text ends in it
abbrev Closes : List ℕ → Type 0
Closes t = ((content : List ℕ) × (rest : List ℕ) × Body t content rest × (length rest < length t)) ⊎ Unended t

plain-found : (c : ℕ) (t : List ℕ) → (c == 34) ≡ false → (c == 92) ≡ false → Closes t → Closes (c ∷ t)
plain-found c t e d (inl found) = inl (c ∷ found.0, found.1, g.plain c t found.0 found.1 e d found.2, let h = found.3 in omega arith)
plain-found c t e d (inr open_) = inr (f.plain c t e d open_)

after-escape : (c : ℕ) (t : List ℕ) → Closes t → Closes (92 ∷ c ∷ t)
after-escape c t (inl found) = inl (c ∷ found.0, found.1, g.escaped c t found.0 found.1 found.2, let h = found.3 in omega arith)
after-escape c t (inr open_) = inr (f.escaped c t open_)

escape-found : (t : List ℕ) → ((u : List ℕ) → length u ≤ length t → Closes u) → Closes (92 ∷ t)
escape-found [] more = inr f.after_backslash
escape-found (c ∷ t) more = after-escape c t (more t (omega arith))

body-within : (k : ℕ) (t : List ℕ) → length t ≤ k → Closes t
body-within k [] h = inr f.at_end
body-within zero (c ∷ t) h = absurd (omega arith)
body-within (suc k) (c ∷ t) h = elim (decide (c == 34)) [
  | inl e ↦ subst (λ d. Closes (d ∷ t)) (sym (eqb-true c 34 e)) (inl ([], t, g.end_quote t, omega arith))
  | inr e ↦ elim (decide (c == 92)) [
    | inl d ↦ subst (λ b. Closes (b ∷ t)) (sym (eqb-true c 92 d)) (escape-found t (λ u l. body-within k u (omega arith)))
    | inr d ↦ plain-found c t e d (body-within k t (omega arith))
  ]
]

-- ---- tokens

taken-found : (t : List ℕ) → (others : List ℕ) × (rest : List ℕ) × Taken t others rest × (length rest ≤ length t)
taken-found [] = ([], [], g.to_end, omega arith)
taken-found (c ∷ t) = elim (decide (ends_token c)) [
  | inl e ↦ ([], c ∷ t, g.to_next c t e, omega arith)
  | inr e ↦ let more = taken-found t in (c ∷ more.0, more.1, g.takes c t more.0 more.1 e more.2, let h = more.3 in omega arith)
]

-- ---- forms

-- a form that t begins with, or a fault of the text
pub record Found (n : ℕ) (t : List ℕ) : Type 0 where
  pub form : Sexp
  pub rest : List ℕ
  pub spells : Spells n t form rest
  pub shorter : length rest < length t

pub record FoundItems (n : ℕ) (t : List ℕ) : Type 0 where
  pub items : List Sexp
  pub rest : List ℕ
  pub spells : Items n t items rest
  pub shorter : length rest < length t

pub record FoundInner (n : ℕ) (t : List ℕ) : Type 0 where
  pub inner : List ℕ
  pub gap : Gap t inner
  pub form : Sexp
  pub rest : List ℕ
  pub spells : Spells n inner form rest
  pub shorter : length rest < length t

abbrev pub Broken : List ℕ → Type 0
Broken text = (fault : ReadFault) × Breaks text fault

stopped : {text : List ℕ} {n : ℕ} {marks : List Mark} {before t : List ℕ} (fault : ReadFault) → Reaches text n marks before → Gap before t → Stops n marks t fault → Broken text
stopped {n = n} {marks = marks} {before = before} {t = t} fault reaches gap stops = (fault, record { allowed = n; marks = marks; before = before; place = t; reaches = reaches; gap = gap; stops = stops })

-- where reading has come to
record Here (text : List ℕ) (n : ℕ) (t : List ℕ) : Type 0 where
  pub marks : List Mark
  pub before : List ℕ
  pub reaches : Reaches text n marks before
  pub gap : Gap before t

here-stops : {text : List ℕ} {n : ℕ} {t : List ℕ} (here : Here text n t) (fault : ReadFault) → Stops n here.marks t fault → Broken text
here-stops here fault stops = stopped fault here.reaches here.gap stops

string-found : (text t : List ℕ) (n : ℕ) → Here text n (34 ∷ t) → Found n (34 ∷ t) ⊎ Broken text
string-found text t n here = elim (body-within (length t) t (omega arith)) [
  | inl w ↦ let shorter = w.3 in inl (record { form = form.Str (encode_utf8_all w.0); rest = w.1; spells = g.string n t w.0 w.1 w.2; shorter = omega arith })
  | inr open_ ↦ inr (here-stops here Unclosed (f.ends_in_string n here.marks t open_))
]

kind-found : (text t token rest : List ℕ) (n : ℕ) → Here text n t → begins_function t ≡ false → Token t token rest → length rest < length t → Kind token → Found n t ⊎ Broken text
kind-found text t token rest n here plain w shorter (k.integer z few is fits) = inl (record { form = form.Int z; rest = rest; spells = g.integer n t token rest z w few is fits; shorter = shorter })
kind-found text t token rest n here plain w shorter (k.wide z few is wide) = inr (here-stops here NumberTooWide (f.wide_number n here.marks t token rest z w few is wide))
kind-found text t token rest n here plain w shorter (k.nil is) = inl (record { form = form.List []; rest = rest; spells = g.nil n t token rest w is; shorter = shorter })
kind-found text t token rest n here plain w shorter (k.symbol good none other) =
    inl (record { form = form.Sym (encode_utf8_all (uppercase token)); rest = rest; spells = g.symbol n t token rest w good none other; shorter = shorter })
kind-found text t token rest n here plain w shorter (k.bad bad) = inr (here-stops here BadToken (f.bad_token n here.marks t token rest plain w bad))

token-found : (text : List ℕ) (c : ℕ) (t : List ℕ) (n : ℕ) → Here text n (c ∷ t) → begins_function (c ∷ t) ≡ false → ends_token c ≡ false → Found n (c ∷ t) ⊎ Broken text
token-found text c t n here plain inside =
    let w = taken-found t in
    let shorter = w.3 in
    kind-found text (c ∷ t) (c ∷ w.0) w.1 n here plain (g.token c t w.0 w.1 inside w.2) (omega arith) (kind-of (c ∷ w.0))

list-found : (text t : List ℕ) (n : ℕ) → Here text n (40 ∷ t) → ((m : ℕ) (marks : List Mark) → Reaches text m (f.in_list ∷ marks) t → FoundItems m t ⊎ Broken text) → Found n (40 ∷ t) ⊎ Broken text
list-found text t zero here more = inr (here-stops here TooDeep (f.deep_list here.marks t))
list-found text t (suc m) here more = elim (more m here.marks (f.list m here.marks here.before t here.reaches here.gap)) [
  | inl w ↦ let shorter = w.shorter in inl (record { form = form.List w.items; rest = w.rest; spells = g.list m t w.rest w.items w.spells; shorter = omega arith })
  | inr b ↦ inr b
]

quote-found : (text t : List ℕ) (n : ℕ) → Here text n (39 ∷ t) → ((m : ℕ) (marks : List Mark) → Reaches text m (f.in_quote ∷ marks) t → FoundInner m t ⊎ Broken text) → Found n (39 ∷ t) ⊎ Broken text
quote-found text t zero here more = inr (here-stops here TooDeep (f.deep_quote here.marks t))
quote-found text t (suc m) here more = elim (more m here.marks (f.quote m here.marks here.before t here.reaches here.gap)) [
  | inl w ↦ let shorter = w.shorter in inl (record { form = quoted (codes "QUOTE") w.form; rest = w.rest; spells = g.quote m t w.inner w.rest w.form w.gap w.spells; shorter = omega arith })
  | inr b ↦ inr b
]

mark-found : (text t : List ℕ) (n : ℕ) → Here text n (35 ∷ 39 ∷ t) → ((m : ℕ) (marks : List Mark) → Reaches text m (f.in_quote ∷ marks) t → FoundInner m t ⊎ Broken text) → Found n (35 ∷ 39 ∷ t) ⊎ Broken text
mark-found text t zero here more = inr (here-stops here TooDeep (f.deep_function here.marks t))
mark-found text t (suc m) here more = elim (more m here.marks (f.function m here.marks here.before t here.reaches here.gap)) [
  | inl w ↦ let shorter = w.shorter in inl (record { form = quoted (codes "FUNCTION") w.form; rest = w.rest; spells = g.function m t w.inner w.rest w.form w.gap w.spells; shorter = omega arith })
  | inr b ↦ inr b
]

hash-found : (text t : List ℕ) (n : ℕ) → Here text n (35 ∷ t)
    → ((u : List ℕ) (m : ℕ) (marks : List Mark) → length u ≤ length t → Reaches text m (f.in_quote ∷ marks) u → FoundInner m u ⊎ Broken text) → Found n (35 ∷ t) ⊎ Broken text
hash-found text [] n here more = token-found text 35 [] n here refl refl
hash-found text (c ∷ t) n here more = elim (decide (c == 39)) [
  | inl e ↦ let is : c ≡ 39 = eqb-true c 39 e in
      subst (λ d. Found n (35 ∷ d ∷ t) ⊎ Broken text) (sym is)
      (mark-found text t n (subst (λ d. Here text n (35 ∷ d ∷ t)) is here) (λ m marks on. more t m marks (omega arith) on))
  | inr e ↦ token-found text 35 (c ∷ t) n here e refl
]

-- a form that begins in a part of the text
abbrev FormIn : List ℕ → List ℕ → ℕ → Type 0
FormIn text t n = (c : ℕ) (u : List ℕ) → suc (length u) ≤ length t → is_space c ≡ false → (c == 59) ≡ false → (c == 41) ≡ false → Here text n (c ∷ u) → Found n (c ∷ u) ⊎ Broken text

items-after : (text t inner : List ℕ) (n : ℕ) (marks : List Mark) → Reaches text n (f.in_list ∷ marks) t → Gap t inner → Solid inner → length inner ≤ length t → FormIn text t n
    → ((rest : List ℕ) → length rest < length t → Reaches text n (f.in_list ∷ marks) rest → FoundItems n rest ⊎ Broken text) → FoundItems n t ⊎ Broken text
items-after text t [] n marks reaches gap solid within one next = inr (stopped Unclosed reaches gap (f.ends_inside n f.in_list marks))
items-after text t (c ∷ u) n marks reaches gap solid within one next = elim (decide (c == 41)) [
  | inl e ↦ inl (record { items = []; rest = u; spells = g.close n t u (subst (λ d. Gap t (d ∷ u)) (eqb-true c 41 e) gap); shorter = omega arith })
  | inr e ↦ elim (one c u within solid.0 solid.1 e (record { marks = f.in_list ∷ marks; before = t; reaches = reaches; gap = gap })) [
    | inr b ↦ inr b
    | inl w ↦
        let shorter = w.shorter in
        elim (next w.rest (omega arith) (f.item n marks t (c ∷ u) w.rest w.form reaches gap w.spells)) [
          | inr b ↦ inr b
          | inl v ↦ let shortest = v.shorter in
              inl (record { items = w.form ∷ v.items; rest = v.rest; spells = g.item n t (c ∷ u) w.rest v.rest w.form v.items gap w.spells v.spells; shorter = omega arith })
        ]
  ]
]

inner-after : (text t inner : List ℕ) (n : ℕ) (marks : List Mark) → Reaches text n (f.in_quote ∷ marks) t → Gap t inner → Solid inner → length inner ≤ length t → FormIn text t n → FoundInner n t ⊎ Broken text
inner-after text t [] n marks reaches gap solid within one = inr (stopped Unclosed reaches gap (f.ends_inside n f.in_quote marks))
inner-after text t (c ∷ u) n marks reaches gap solid within one = elim (decide (c == 41)) [
  | inl e ↦ inr (stopped StrayClose reaches (subst (λ d. Gap t (d ∷ u)) (eqb-true c 41 e) gap) (f.closes_quote n marks u))
  | inr e ↦ elim (one c u within solid.0 solid.1 e (record { marks = f.in_quote ∷ marks; before = t; reaches = reaches; gap = gap })) [
    | inr b ↦ inr b
    | inl w ↦ let shorter = w.shorter in inl (record { inner = c ∷ u; gap = gap; form = w.form; rest = w.rest; spells = w.spells; shorter = omega arith })
  ]
]

none-of-these : (c : ℕ) → is_space c ≡ false → (c == 40) ≡ false → (c == 41) ≡ false → (c == 34) ≡ false → (c == 59) ≡ false → (c == 39) ≡ false → ends_token c ≡ false
none-of-these c a b d e h i = rw (a, b, d, e, h, i) refl

not_function : (c : ℕ) (t : List ℕ) → (c == 35) ≡ false → begins_function (c ∷ t) ≡ false
not_function c [] h = refl
not_function c (d ∷ t) h = rw h refl

mutual
  -- a form, of at most so many characters
  form-within : (k : ℕ) (text : List ℕ) (c : ℕ) (t : List ℕ) → 2 * suc (length t) ≤ k → (n : ℕ) → is_space c ≡ false → (c == 59) ≡ false → (c == 41) ≡ false → Here text n (c ∷ t)
      → Found n (c ∷ t) ⊎ Broken text
  form-within zero text c t h n a b e here = absurd (omega arith)
  form-within (suc k) text c t h n a b e here = elim (decide (c == 40)) [
    | inl q ↦ let is : c ≡ 40 = eqb-true c 40 q in
        subst (λ d. Found n (d ∷ t) ⊎ Broken text) (sym is) (list-found text t n (subst (λ d. Here text n (d ∷ t)) is here) (λ m marks on. items-within k text t (omega arith) m marks on))
    | inr not40 ↦ elim (decide (c == 39)) [
      | inl q ↦ let is : c ≡ 39 = eqb-true c 39 q in
          subst (λ d. Found n (d ∷ t) ⊎ Broken text) (sym is) (quote-found text t n (subst (λ d. Here text n (d ∷ t)) is here) (λ m marks on. inner-within k text t (omega arith) m marks on))
      | inr not39 ↦ elim (decide (c == 35)) [
        | inl q ↦ let is : c ≡ 35 = eqb-true c 35 q in
            subst (λ d. Found n (d ∷ t) ⊎ Broken text) (sym is)
            (hash-found text t n (subst (λ d. Here text n (d ∷ t)) is here) (λ u m marks shorter on. inner-within k text u (omega arith) m marks on))
        | inr not35 ↦ elim (decide (c == 34)) [
          | inl q ↦ let is : c ≡ 34 = eqb-true c 34 q in
              subst (λ d. Found n (d ∷ t) ⊎ Broken text) (sym is) (string-found text t n (subst (λ d. Here text n (d ∷ t)) is here))
          | inr not34 ↦ token-found text c t n here (not_function c t not35) (none-of-these c a not40 e not34 b not39)
        ]
      ]
    ]
  ]

  -- the items of a list up to its end
  items-within : (k : ℕ) (text t : List ℕ) → 2 * length t + 1 ≤ k → (n : ℕ) (marks : List Mark) → Reaches text n (f.in_list ∷ marks) t → FoundItems n t ⊎ Broken text
  items-within zero text t h n marks reaches = absurd (omega arith)
  items-within (suc k) text t h n marks reaches =
      let w = gap-found t in
      items-after text t w.0 n marks reaches w.1 w.2 w.3
      (λ c u l a b e here. form-within k text c u (omega arith) n a b e here)
      (λ rest l on. items-within k text rest (omega arith) n marks on)

  -- the form after a quote mark
  inner-within : (k : ℕ) (text t : List ℕ) → 2 * length t + 1 ≤ k → (n : ℕ) (marks : List Mark) → Reaches text n (f.in_quote ∷ marks) t → FoundInner n t ⊎ Broken text
  inner-within zero text t h n marks reaches = absurd (omega arith)
  inner-within (suc k) text t h n marks reaches =
      let w = gap-found t in
      inner-after text t w.0 n marks reaches w.1 w.2 w.3 (λ c u l a b e here. form-within k text c u (omega arith) n a b e here)

-- ---- texts

-- the first form of a text
pub form-found : (text : List ℕ) (c : ℕ) (t : List ℕ) → Gap text (c ∷ t) → is_space c ≡ false → (c == 59) ≡ false → Found 500 (c ∷ t) ⊎ Broken text
form-found text c t gap a b = elim (decide (c == 41)) [
  | inl e ↦ inr (stopped StrayClose f.begins (subst (λ d. Gap text (d ∷ t)) (eqb-true c 41 e) gap) (f.closes_nothing 500 t))
  | inr e ↦ form-within (2 * suc (length t)) text c t (omega arith) 500 a b e (record { marks = []; before = text; reaches = f.begins; gap = gap })
]

after-form : (text before after rest : List ℕ) (x : Sexp) → Gap text before → Spells 500 before x after → Gap after rest → Solid rest → ((y : Sexp) × IsSpelled text y) ⊎ ((fault : ReadFault) × IsFault text fault)
after-form text before after [] x leads spells gap solid = inl (x, record { before = before; after = after; leads = leads; spells = spells; ends = gap })
after-form text before after (c ∷ rest) x leads spells gap solid = inr (TrailingText, f.trails before after x c rest leads spells gap (rw (solid.0, solid.1) refl))

one-from : (text before : List ℕ) → Gap text before → Solid before → ((x : Sexp) × IsSpelled text x) ⊎ ((fault : ReadFault) × IsFault text fault)
one-from text [] gap solid = inr (End, f.ends gap)
one-from text (c ∷ t) gap solid = elim (form-found text c t gap solid.0 solid.1) [
  | inr b ↦ inr (b.0, f.breaks b.0 b.1)
  | inl w ↦ let after = gap-found w.rest in after-form text (c ∷ t) w.rest after.0 w.form gap w.spells after.1 after.2
]

-- a text is a spelling of one form, or has a fault
pub one-or-fault : (text : List ℕ) → ((x : Sexp) × IsSpelled text x) ⊎ ((fault : ReadFault) × IsFault text fault)
one-or-fault text = let w = gap-found text in one-from text w.0 w.1 w.2

abbrev AllOr : List ℕ → List ℕ → Type 0
AllOr text t = ((forms : List Placed) × SpellsAll text t forms) ⊎ ((fault : ReadFault) × IsFaultAmong t fault)

all-after : (text t : List ℕ) (c : ℕ) (u : List ℕ) → Gap t (c ∷ u) → (w : Found 500 (c ∷ u)) → AllOr text w.rest → AllOr text t
all-after text t c u gap w (inl more) = inl (record { form = w.form; at = place text (c ∷ u) } ∷ more.0, g.next t (c ∷ u) w.rest w.form more.0 gap w.spells more.1)
all-after text t c u gap w (inr b) = inr (b.0, f.next t (c ∷ u) w.rest w.form b.0 gap w.spells b.1)

all-from : (text t inner : List ℕ) → Gap t inner → Solid inner → length inner ≤ length t → ((u : List ℕ) → length u < length t → AllOr text u) → AllOr text t
all-from text t [] gap solid within more = inl ([], g.ends t gap)
all-from text t (c ∷ u) gap solid within more = elim (form-found t c u gap solid.0 solid.1) [
  | inr b ↦ inr (b.0, f.breaks t b.0 b.1)
  | inl w ↦ let shorter = w.shorter in all-after text t c u gap w (more w.rest (omega arith))
]

all-within : (k : ℕ) (text t : List ℕ) → length t < k → AllOr text t
all-within zero text t h = absurd (omega arith)
all-within (suc k) text t h = let w = gap-found t in all-from text t w.0 w.1 w.2 w.3 (λ u l. all-within k text u (omega arith))

-- a text is a spelling of forms one after another, or has a fault
pub all-or-fault : (text : List ℕ) → AllOr text text
all-or-fault text = all-within (suc (length text)) text text (omega arith)
