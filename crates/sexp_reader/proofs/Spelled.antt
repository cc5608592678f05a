-- What a text spells is read.
use Rattle.std.proofs.Common.{◌≡◌, ℕ, ℤ, suc, ◌+◌, ◌<◌, ◌≤◌, true, false, inl, inr, List, [], ◌∷◌, ◌++◌, length, refl, sym, ap, subst, ◌∙◌, arith, append_assoc, length-append}
use Rattle.std.specs.Prelude.{encode_utf8, encode_utf8_all, Ok, Err, Result, nat_lt, slice_index}
use Rattle.std.specs.Char.{to_ascii_uppercase}
use Rattle.std.proofs.lemmas.Bool.{ltb-true, ltb-false, eqb-true}
use Rattle.std.proofs.lemmas.List.{append-nil}
use Rattle.lisp_data.specs.declared.sexp.Sexp.{Sexp}
use Rattle.lisp_data.specs.declared.sexp.Sexp.TheVariants as form
use Rattle.sexp_reader.specs.declared.fault.ReadFault.{ReadFault}
use Rattle.sexp_reader.specs.declared.fault.ReadFault.TheVariants.{BadToken}
use Rattle.sexp_reader.specs.declared.state.Forms.{Forms}
use Rattle.sexp_reader.specs.declared.state.Frame.{Frame}
use Rattle.sexp_reader.specs.declared.state.Frame.TheVariants.{Open, Quote, Function}
use Rattle.sexp_reader.specs.Answers.{◌>>=◌}
use Rattle.sexp_reader.specs.Atoms.{atom}
use Rattle.sexp_reader.specs.Grammar as g
use Rattle.sexp_reader.specs.Grammar.{Gap, Body, Taken, Token, Spells, Items, place}
use Rattle.sexp_reader.specs.Tokens as t
use Rattle.sexp_reader.specs.Tokens.{IsBad, IsInteger, IsNil}
use Rattle.sexp_reader.specs.Reading.{ready, began, is_full, complete, between, token_ended, run, finish, whole}
use Rattle.sexp_reader.proofs.BoolLemmas.{decide}
use Rattle.sexp_reader.proofs.AtomLemmas.{begins_hash, hash-bad, atom-integer, atom-nil, atom-symbol}
use Rattle.sexp_reader.proofs.TextLemmas.{below_letters}
use Rattle.sexp_reader.proofs.TokenLemmas.{hash-none}
use Rattle.sexp_reader.proofs.ReadingLemmas.{run-ok, run-err, run-nil, run-cons}
use Rattle.sexp_reader.proofs.Steps.{commenting, after_hash, at_string, at_escape, at_token, on_space, on_semicolon, in_comment, on_newline, on_open, on_close, on_quote, on_hash, on_function, on_string, on_end_quote, on_backslash, on_escaped, on_plain, on_token, on_more, on_end, step-complete, finish-complete, finish-token, long_token}

-- ---- gaps

-- a comment ends as if it were not there
end_of_comment : (text : List ℕ) (stack : List Frame) (forms : Forms) → run text (commenting stack forms) [] ≡ run text (ready stack forms) []
unfolding finish
end_of_comment text stack forms = run-nil text (commenting stack forms) ∙ sym (run-nil text (ready stack forms))

comment-run : {u rest : List ℕ} → g.Comment u rest → (text : List ℕ) (stack : List Frame) (forms : Forms) → run text (commenting stack forms) u ≡ run text (ready stack forms) rest
comment-run g.at_end text stack forms = end_of_comment text stack forms
comment-run (g.at_newline u) text stack forms =
    run-ok text (commenting stack forms) (ready stack forms) 10 u (on_newline stack forms (place text (10 ∷ u)))
    ∙ sym (run-ok text (ready stack forms) (ready stack forms) 10 u (on_space stack forms (place text (10 ∷ u)) 10 refl))
comment-run (g.goes_on c u rest e more) text stack forms =
    run-ok text (commenting stack forms) (commenting stack forms) c u (in_comment stack forms (place text (c ∷ u)) c e) ∙ comment-run more text stack forms

pub gap-run : {u rest : List ℕ} → Gap u rest → (text : List ℕ) (stack : List Frame) (forms : Forms) → run text (ready stack forms) u ≡ run text (ready stack forms) rest
gap-run (g.nothing u) text stack forms = refl
gap-run (g.space c u rest e more) text stack forms =
    run-ok text (ready stack forms) (ready stack forms) c u (on_space stack forms (place text (c ∷ u)) c e) ∙ gap-run more text stack forms
gap-run (g.comment u after rest c more) text stack forms =
    run-ok text (ready stack forms) (commenting stack forms) 59 u (on_semicolon stack forms (place text (59 ∷ u)))
    ∙ (comment-run c text stack forms ∙ gap-run more text stack forms)

-- ---- strings

pub body-run : {u content rest : List ℕ} → Body u content rest → (text : List ℕ) (stack : List Frame) (forms : Forms) (so_far : List ℕ)
    → run text (at_string stack forms so_far) u ≡ run text (complete stack forms (form.Str (so_far ++ encode_utf8_all content))) rest
body-run (g.end_quote u) text stack forms so_far =
    run-ok text (at_string stack forms so_far) (complete stack forms (form.Str so_far)) 34 u (on_end_quote stack forms so_far (place text (34 ∷ u)))
    ∙ ap (λ x. run text (complete stack forms (form.Str x)) u) (sym (append-nil so_far))
body-run (g.escaped c u content rest more) text stack forms so_far =
    run-ok text (at_string stack forms so_far) (at_escape stack forms so_far) 92 (c ∷ u) (on_backslash stack forms so_far (place text (92 ∷ c ∷ u)))
    ∙ (run-ok text (at_escape stack forms so_far) (at_string stack forms (so_far ++ encode_utf8 c)) c u (on_escaped stack forms so_far (place text (c ∷ u)) c)
    ∙ (body-run more text stack forms (so_far ++ encode_utf8 c)
    ∙ ap (λ x. run text (complete stack forms (form.Str x)) rest) (append_assoc so_far (encode_utf8 c) (encode_utf8_all content))))
body-run (g.plain c u content rest a b more) text stack forms so_far =
    run-ok text (at_string stack forms so_far) (at_string stack forms (so_far ++ encode_utf8 c)) c u (on_plain stack forms so_far (place text (c ∷ u)) c a b)
    ∙ (body-run more text stack forms (so_far ++ encode_utf8 c)
    ∙ ap (λ x. run text (complete stack forms (form.Str x)) rest) (append_assoc so_far (encode_utf8 c) (encode_utf8_all content)))

-- ---- tokens

ended : (stack : List Frame) (forms : Forms) (token : List ℕ) → token_ended (at_token stack forms token) ≡ (atom token >>= λ x. Ok (complete stack forms x))
unfolding token_ended
ended stack forms token = refl

at-end : (a : Result Sexp ReadFault) (text : List ℕ) (stack : List Frame) (forms : Forms)
    → ((a >>= λ x. Ok (complete stack forms x)) >>= whole) ≡ (a >>= λ x. run text (complete stack forms x) [])
at-end (Ok x) text stack forms = sym (finish-complete stack forms x) ∙ sym (run-nil text (complete stack forms x))
at-end (Err fault) text stack forms = refl

at-next : (a : Result Sexp ReadFault) (text : List ℕ) (stack : List Frame) (forms : Forms) (c : ℕ) (u : List ℕ)
    → (((a >>= λ x. Ok (complete stack forms x)) >>= λ s. between s (place text (c ∷ u)) c) >>= λ s. run text s u) ≡ (a >>= λ x. run text (complete stack forms x) (c ∷ u))
at-next (Ok x) text stack forms c u =
    ap (λ r. r >>= λ s. run text s u) (sym (step-complete stack forms x (place text (c ∷ u)) c)) ∙ sym (run-cons text (complete stack forms x) c u)
at-next (Err fault) text stack forms c u = refl

-- a token, some of whose characters were read
pub token-run : {u others rest : List ℕ} → Taken u others rest → (text : List ℕ) (stack : List Frame) (forms : Forms) (token : List ℕ) → length token + length others ≤ 1000
    → run text (at_token stack forms token) u ≡ (atom (token ++ others) >>= λ x. run text (complete stack forms x) rest)
token-run g.to_end text stack forms token few =
    run-nil text (at_token stack forms token) ∙ (finish-token stack forms token ∙ (ap (λ r. r >>= whole) (ended stack forms token)
    ∙ (at-end (atom token) text stack forms ∙ ap (λ w. atom w >>= λ x. run text (complete stack forms x) []) (sym (append-nil token)))))
token-run (g.to_next c u ends) text stack forms token few =
    run-cons text (at_token stack forms token) c u ∙ (ap (λ r. r >>= λ s. run text s u) (on_end stack forms token (place text (c ∷ u)) c ends)
    ∙ (ap (λ r. (r >>= λ s. between s (place text (c ∷ u)) c) >>= λ s. run text s u) (ended stack forms token)
    ∙ (at-next (atom token) text stack forms c u ∙ ap (λ w. atom w >>= λ x. run text (complete stack forms x) (c ∷ u)) (sym (append-nil token)))))
token-run {rest = rest} (g.takes c u others _ inside more) text stack forms token few =
    let longer : length (token ++ c ∷ []) + length others ≤ 1000 = omega (arith, length-append token (c ∷ [])) in
    run-ok text (at_token stack forms token) (at_token stack forms (token ++ c ∷ [])) c u (on_more stack forms token (place text (c ∷ u)) c inside (omega arith))
    ∙ (token-run more text stack forms (token ++ c ∷ []) longer
    ∙ ap (λ w. atom w >>= λ x. run text (complete stack forms x) rest) (append_assoc token (c ∷ []) others))

-- one that is too long
pub long-run : {u others rest : List ℕ} → Taken u others rest → (text : List ℕ) (stack : List Frame) (forms : Forms) (token : List ℕ) → length token ≤ 1000 → 1000 < length token + length others
    → run text (at_token stack forms token) u ≡ Err BadToken
long-run g.to_end text stack forms token few long = absurd (omega arith)
long-run (g.to_next c u ends) text stack forms token few long = absurd (omega arith)
long-run (g.takes c u others rest inside more) text stack forms token few long = elim (decide (nat_lt (length token) 1000)) [
  | inr e ↦ run-err text (at_token stack forms token) c u BadToken (long_token stack forms token (place text (c ∷ u)) c inside (ltb-false (length token) 1000 e))
  | inl e ↦
      let below : length token < 1000 = ltb-true (length token) 1000 e in
      let count = length-append token (c ∷ []) in
      run-ok text (at_token stack forms token) (at_token stack forms (token ++ c ∷ [])) c u (on_more stack forms token (place text (c ∷ u)) c inside below)
      ∙ long-run more text stack forms (token ++ c ∷ []) (omega arith) (omega arith)
]

-- a whole token that does not begin with `#`
pub whole-token : {u token rest : List ℕ} → Token u token rest → begins_hash token ≡ false → length token ≤ 1000 → (text : List ℕ) (stack : List Frame) (forms : Forms) → is_full forms ≡ false
    → run text (ready stack forms) u ≡ (atom token >>= λ x. run text (complete stack (began forms stack (place text u)) x) rest)
whole-token (g.token c u others rest inside taken) plain few text stack forms open_ =
    let at = place text (c ∷ u) in
    run-ok text (ready stack forms) (at_token stack (began forms stack at) (c ∷ [])) c u (on_token stack forms at c open_ inside plain)
    ∙ token-run taken text stack (began forms stack at) (c ∷ []) (omega arith)

pub long-token-run : {u token rest : List ℕ} → Token u token rest → begins_hash token ≡ false → 1000 < length token → (text : List ℕ) (stack : List Frame) (forms : Forms) → is_full forms ≡ false
    → run text (ready stack forms) u ≡ Err BadToken
long-token-run (g.token c u others rest inside taken) plain long text stack forms open_ =
    let at = place text (c ∷ u) in
    run-ok text (ready stack forms) (at_token stack (began forms stack at) (c ∷ [])) c u (on_token stack forms at c open_ inside plain)
    ∙ long-run taken text stack (began forms stack at) (c ∷ []) (omega arith) (omega arith)

not_hash : (token : List ℕ) → (begins_hash token ≡ true → ⊥) → begins_hash token ≡ false
not_hash token h = elim (decide (begins_hash token)) [ inl e ↦ absurd (h e) | inr e ↦ e ]

pub good-plain : (token : List ℕ) → ¬ IsBad token → begins_hash token ≡ false
good-plain token good = not_hash token (λ e. good (hash-bad token e))

integer-no_hash : (token : List ℕ) (z : ℤ) → IsInteger token z → begins_hash token ≡ true → ⊥
integer-no_hash [] z is e = absurd (cc)
integer-no_hash (c ∷ cs) z is e = hash-none cs z (subst (λ d. IsInteger (d ∷ cs) z) (eqb-true c 35 e) is)

pub integer-plain : (token : List ℕ) (z : ℤ) → IsInteger token z → begins_hash token ≡ false
integer-plain token z is = not_hash token (integer-no_hash token z is)

hash-no_letter : (c : ℕ) → c ≡ 35 → to_ascii_uppercase c ≡ 78 → ⊥
hash-no_letter c e h = let low = below_letters c (omega arith) in absurd (omega arith)

nil-no_hash : (token : List ℕ) → IsNil token → begins_hash token ≡ true → ⊥
nil-no_hash [] is e = absurd (cc)
nil-no_hash (c ∷ cs) is e = let first : to_ascii_uppercase c ≡ 78 = ap (λ l. slice_index l 0) is in hash-no_letter c (eqb-true c 35 e) first

pub nil-plain : (token : List ℕ) → IsNil token → begins_hash token ≡ false
nil-plain token is = not_hash token (nil-no_hash token is)

nil-few : (token : List ℕ) → IsNil token → length token ≤ 1000
nil-few [] is = omega arith
nil-few (a ∷ []) is = omega arith
nil-few (a ∷ b ∷ []) is = omega arith
nil-few (a ∷ b ∷ c ∷ []) is = omega arith
nil-few (a ∷ b ∷ c ∷ d ∷ ds) is = absurd (cc)

good-few : (token : List ℕ) → ¬ IsBad token → length token ≤ 1000
good-few token good = elim (decide (nat_lt 1000 (length token))) [
  | inl e ↦ absurd (good (t.is_too_long token (ltb-true _ _ e)))
  | inr e ↦ ltb-false _ _ e
]

-- a token that has a form
token-form : {u token rest : List ℕ} (x : Sexp) → Token u token rest → begins_hash token ≡ false → length token ≤ 1000 → atom token ≡ Ok x → (text : List ℕ) (stack : List Frame) (forms : Forms) → is_full forms ≡ false
    → run text (ready stack forms) u ≡ run text (complete stack (began forms stack (place text u)) x) rest
token-form {u} {token} {rest} x w plain few e text stack forms open_ =
    whole-token w plain few text stack forms open_ ∙ ap (λ a. a >>= λ y. run text (complete stack (began forms stack (place text u)) y) rest) e

-- ---- forms

pub began-full : (forms : Forms) (stack : List Frame) (at : ℕ) → is_full forms ≡ false → is_full (began forms stack at) ≡ false
unfolding is_full
began-full forms [] at h = h
began-full forms (frame ∷ stack) at h = h

mutual
  unfolding complete

  pub spells-run : {n : ℕ} {u rest : List ℕ} {x : Sexp} → Spells n u x rest → (text : List ℕ) (stack : List Frame) (forms : Forms) → is_full forms ≡ false → length stack + n ≤ 500
      → run text (ready stack forms) u ≡ run text (complete stack (began forms stack (place text u)) x) rest
  spells-run (g.list n u rest xs items) text stack forms open_ h =
      let at = place text (40 ∷ u) in
      run-ok text (ready stack forms) (ready (Open [] ∷ stack) (began forms stack at)) 40 u (on_open stack forms at open_ (omega arith))
      ∙ items-run items text stack (began forms stack at) [] (began-full forms stack at open_) (omega arith)
  spells-run (g.quote n u inner rest x gap w) text stack forms open_ h =
      let at = place text (39 ∷ u) in
      run-ok text (ready stack forms) (ready (Quote ∷ stack) (began forms stack at)) 39 u (on_quote stack forms at open_ (omega arith))
      ∙ (gap-run gap text (Quote ∷ stack) (began forms stack at) ∙ spells-run w text (Quote ∷ stack) (began forms stack at) (began-full forms stack at open_) (omega arith))
  spells-run (g.function n u inner rest x gap w) text stack forms open_ h =
      let at = place text (35 ∷ 39 ∷ u) in
      run-ok text (ready stack forms) (after_hash stack (began forms stack at)) 35 (39 ∷ u) (on_hash stack forms at open_)
      ∙ (run-ok text (after_hash stack (began forms stack at)) (ready (Function ∷ stack) (began forms stack at)) 39 u (on_function stack (began forms stack at) (place text (39 ∷ u)) (omega arith))
      ∙ (gap-run gap text (Function ∷ stack) (began forms stack at) ∙ spells-run w text (Function ∷ stack) (began forms stack at) (began-full forms stack at open_) (omega arith)))
  spells-run (g.string n u content rest body) text stack forms open_ h =
      let at = place text (34 ∷ u) in
      run-ok text (ready stack forms) (at_string stack (began forms stack at) []) 34 u (on_string stack forms at open_)
      ∙ body-run body text stack (began forms stack at) []
  spells-run (g.integer n u token rest z w few is fits) text stack forms open_ h = token-form (form.Int z) w (integer-plain token z is) few (atom-integer is fits) text stack forms open_
  spells-run (g.nil n u token rest w is) text stack forms open_ h = token-form (form.List []) w (nil-plain token is) (nil-few token is) (atom-nil token is) text stack forms open_
  spells-run (g.symbol n u token rest w good none other) text stack forms open_ h =
      token-form _ w (good-plain token good) (good-few token good) (atom-symbol token good none other) text stack forms open_

  pub items-run : {n : ℕ} {u rest : List ℕ} {xs : List Sexp} → Items n u xs rest → (text : List ℕ) (stack : List Frame) (forms : Forms) (items : List Sexp) → is_full forms ≡ false
      → suc (length stack) + n ≤ 500 → run text (ready (Open items ∷ stack) forms) u ≡ run text (complete stack forms (form.List (items ++ xs))) rest
  items-run (g.close n u rest gap) text stack forms items open_ h =
      gap-run gap text (Open items ∷ stack) forms
      ∙ (run-ok text (ready (Open items ∷ stack) forms) (complete stack forms (form.List items)) 41 rest (on_close stack forms items (place text (41 ∷ rest)) open_)
      ∙ ap (λ l. run text (complete stack forms (form.List l)) rest) (sym (append-nil items)))
  items-run (g.item n u inner after rest x xs gap w more) text stack forms items open_ h =
      gap-run gap text (Open items ∷ stack) forms ∙ (spells-run w text (Open items ∷ stack) forms open_ h
      ∙ (items-run more text stack forms (items ++ x ∷ []) open_ h ∙ ap (λ l. run text (complete stack forms (form.List l)) rest) (append_assoc items (x ∷ []) xs)))
