-- What one character does.
use Rattle.std.proofs.Common.{◌≡◌, ℕ, ◌<◌, ◌≤◌, true, false, ◌||◌, ◌==◌, List, [], ◌∷◌, ◌++◌, length, refl}
use Rattle.std.specs.Prelude.{encode_utf8, Ok, Err}
use Rattle.std.proofs.lemmas.Bool.{lt-ltb, le-ltb}
use Rattle.lisp_data.specs.declared.sexp.Sexp.{Sexp}
use Rattle.lisp_data.specs.declared.sexp.Sexp.TheVariants as form
use Rattle.sexp_reader.specs.declared.fault.ReadFault.TheVariants.{Unclosed, StrayClose, BadToken, TooDeep, TrailingText}
use Rattle.sexp_reader.specs.declared.state.Forms.{Forms}
use Rattle.sexp_reader.specs.declared.state.Frame.{Frame}
use Rattle.sexp_reader.specs.declared.state.Frame.TheVariants.{Open, Quote, Function}
use Rattle.sexp_reader.specs.declared.state.Mode.TheVariants.{Comment, Hash, Token, Str, Escape}
use Rattle.sexp_reader.specs.declared.state.Reader.{Reader}
use Rattle.sexp_reader.specs.Answers.{◌>>=◌}
use Rattle.sexp_reader.specs.Tokens.{is_space, ends_token}
use Rattle.sexp_reader.proofs.BoolLemmas.{or-false}
use Rattle.sexp_reader.specs.Reading.{ready, began, is_full, complete, step, between, begun_by, in_token, in_string, opened, closed, token_ended, finish, whole}

abbrev pub commenting : List Frame → Forms → Reader
commenting stack forms = record (ready stack forms) { mode = Comment }

abbrev pub after_hash : List Frame → Forms → Reader
after_hash stack forms = record (ready stack forms) { mode = Hash }

abbrev pub at_string : List Frame → Forms → List ℕ → Reader
at_string stack forms text = record { stack = stack; forms = forms; mode = Str; text = text; token = [] }

abbrev pub at_escape : List Frame → Forms → List ℕ → Reader
at_escape stack forms text = record { stack = stack; forms = forms; mode = Escape; text = text; token = [] }

abbrev pub at_token : List Frame → Forms → List ℕ → Reader
at_token stack forms token = record { stack = stack; forms = forms; mode = Token; text = []; token = token }

-- ---- whitespace and comments

pub on_space : (stack : List Frame) (forms : Forms) (at c : ℕ) → is_space c ≡ true → step (ready stack forms) at c ≡ Ok (ready stack forms)
unfolding step between
on_space stack forms at c e = rw e refl

pub on_semicolon : (stack : List Frame) (forms : Forms) (at : ℕ) → step (ready stack forms) at 59 ≡ Ok (commenting stack forms)
unfolding step between
on_semicolon stack forms at = refl

pub in_comment : (stack : List Frame) (forms : Forms) (at c : ℕ) → (c == 10) ≡ false → step (commenting stack forms) at c ≡ Ok (commenting stack forms)
unfolding step
in_comment stack forms at c e = rw e refl

pub on_newline : (stack : List Frame) (forms : Forms) (at : ℕ) → step (commenting stack forms) at 10 ≡ Ok (ready stack forms)
unfolding step
on_newline stack forms at = refl

-- ---- marks

pub on_open : (stack : List Frame) (forms : Forms) (at : ℕ) → is_full forms ≡ false → length stack < 500 → step (ready stack forms) at 40 ≡ Ok (ready (Open [] ∷ stack) (began forms stack at))
unfolding step between begun_by opened
on_open stack forms at e h = rw (e, lt-ltb (length stack) 500 h) refl

pub on_close : (stack : List Frame) (forms : Forms) (items : List Sexp) (at : ℕ) → is_full forms ≡ false → step (ready (Open items ∷ stack) forms) at 41 ≡ Ok (complete stack forms (form.List items))
unfolding step between begun_by closed
on_close stack forms items at e = rw e refl

pub on_quote : (stack : List Frame) (forms : Forms) (at : ℕ) → is_full forms ≡ false → length stack < 500 → step (ready stack forms) at 39 ≡ Ok (ready (Quote ∷ stack) (began forms stack at))
unfolding step between begun_by opened
on_quote stack forms at e h = rw (e, lt-ltb (length stack) 500 h) refl

pub on_hash : (stack : List Frame) (forms : Forms) (at : ℕ) → is_full forms ≡ false → step (ready stack forms) at 35 ≡ Ok (after_hash stack (began forms stack at))
unfolding step between begun_by
on_hash stack forms at e = rw e refl

pub on_function : (stack : List Frame) (forms : Forms) (at : ℕ) → length stack < 500 → step (after_hash stack forms) at 39 ≡ Ok (ready (Function ∷ stack) forms)
unfolding step opened
on_function stack forms at h = rw (lt-ltb (length stack) 500 h) refl

-- ---- strings

pub on_string : (stack : List Frame) (forms : Forms) (at : ℕ) → is_full forms ≡ false → step (ready stack forms) at 34 ≡ Ok (at_string stack (began forms stack at) [])
unfolding step between begun_by
on_string stack forms at e = rw e refl

pub on_end_quote : (stack : List Frame) (forms : Forms) (text : List ℕ) (at : ℕ) → step (at_string stack forms text) at 34 ≡ Ok (complete stack forms (form.Str text))
unfolding step in_string
on_end_quote stack forms text at = refl

pub on_backslash : (stack : List Frame) (forms : Forms) (text : List ℕ) (at : ℕ) → step (at_string stack forms text) at 92 ≡ Ok (at_escape stack forms text)
unfolding step in_string
on_backslash stack forms text at = refl

pub on_escaped : (stack : List Frame) (forms : Forms) (text : List ℕ) (at c : ℕ) → step (at_escape stack forms text) at c ≡ Ok (at_string stack forms (text ++ encode_utf8 c))
unfolding step
on_escaped stack forms text at c = refl

pub on_plain : (stack : List Frame) (forms : Forms) (text : List ℕ) (at c : ℕ) → (c == 34) ≡ false → (c == 92) ≡ false → step (at_string stack forms text) at c ≡ Ok (at_string stack forms (text ++ encode_utf8 c))
unfolding step in_string
on_plain stack forms text at c a b = rw (a, b) refl

-- ---- tokens

-- a character that ends no token is none of these
pub record Plain (c : ℕ) : Type 0 where
  pub space : is_space c ≡ false
  pub open_ : (c == 40) ≡ false
  pub close : (c == 41) ≡ false
  pub string : (c == 34) ≡ false
  pub comment : (c == 59) ≡ false
  pub quote : (c == 39) ≡ false

pub plain_of : (c : ℕ) → ends_token c ≡ false → Plain c
plain_of c h =
    let f39 = or-false (is_space c || c == 40 || c == 41 || c == 34 || c == 59) (c == 39) h in
    let f59 = or-false (is_space c || c == 40 || c == 41 || c == 34) (c == 59) f39.0 in
    let f34 = or-false (is_space c || c == 40 || c == 41) (c == 34) f59.0 in
    let f41 = or-false (is_space c || c == 40) (c == 41) f34.0 in
    let f40 = or-false (is_space c) (c == 40) f41.0 in
    record { space = f40.0; open_ = f40.1; close = f41.1; string = f34.1; comment = f59.1; quote = f39.1 }

pub on_token : (stack : List Frame) (forms : Forms) (at c : ℕ) → is_full forms ≡ false → ends_token c ≡ false → (c == 35) ≡ false → step (ready stack forms) at c ≡ Ok (at_token stack (began forms stack at) (c ∷ []))
unfolding step between begun_by
on_token stack forms at c e h not35 = let p = plain_of c h in rw (p.space, p.comment, e, p.open_, p.close, p.quote, p.string, not35) refl

pub on_more : (stack : List Frame) (forms : Forms) (token : List ℕ) (at c : ℕ) → ends_token c ≡ false → length token < 1000 → step (at_token stack forms token) at c ≡ Ok (at_token stack forms (token ++ c ∷ []))
unfolding step in_token
on_more stack forms token at c e h = rw (e, lt-ltb (length token) 1000 h) refl

pub on_end : (stack : List Frame) (forms : Forms) (token : List ℕ) (at c : ℕ) → ends_token c ≡ true → step (at_token stack forms token) at c ≡ (token_ended (at_token stack forms token) >>= λ s. between s at c)
unfolding step in_token
on_end stack forms token at c e = rw e refl

-- ---- what comes after a form

pub step-complete : (stack : List Frame) (forms : Forms) (x : Sexp) (at c : ℕ) → step (complete stack forms x) at c ≡ between (complete stack forms x) at c
unfolding step complete
step-complete stack forms x at c = refl

pub finish-complete : (stack : List Frame) (forms : Forms) (x : Sexp) → finish (complete stack forms x) ≡ whole (complete stack forms x)
unfolding finish complete
finish-complete stack forms x = refl

pub finish-token : (stack : List Frame) (forms : Forms) (token : List ℕ) → finish (at_token stack forms token) ≡ (token_ended (at_token stack forms token) >>= whole)
unfolding finish
finish-token stack forms token = refl

-- ---- faults

pub deep_list : (stack : List Frame) (forms : Forms) (at : ℕ) → is_full forms ≡ false → 500 ≤ length stack → step (ready stack forms) at 40 ≡ Err TooDeep
unfolding step between begun_by opened
deep_list stack forms at e h = rw (e, le-ltb (length stack) 500 h) refl

pub deep_quote : (stack : List Frame) (forms : Forms) (at : ℕ) → is_full forms ≡ false → 500 ≤ length stack → step (ready stack forms) at 39 ≡ Err TooDeep
unfolding step between begun_by opened
deep_quote stack forms at e h = rw (e, le-ltb (length stack) 500 h) refl

pub deep_function : (stack : List Frame) (forms : Forms) (at : ℕ) → 500 ≤ length stack → step (after_hash stack forms) at 39 ≡ Err TooDeep
unfolding step opened
deep_function stack forms at h = rw (le-ltb (length stack) 500 h) refl

pub stray : (forms : Forms) (at : ℕ) → is_full forms ≡ false → step (ready [] forms) at 41 ≡ Err StrayClose
unfolding step between begun_by closed
stray forms at e = rw e refl

pub stray_quote : (stack : List Frame) (forms : Forms) (at : ℕ) → is_full forms ≡ false → step (ready (Quote ∷ stack) forms) at 41 ≡ Err StrayClose
unfolding step between begun_by closed
stray_quote stack forms at e = rw e refl

pub stray_function : (stack : List Frame) (forms : Forms) (at : ℕ) → is_full forms ≡ false → step (ready (Function ∷ stack) forms) at 41 ≡ Err StrayClose
unfolding step between begun_by closed
stray_function stack forms at e = rw e refl

pub bad_hash : (stack : List Frame) (forms : Forms) (at c : ℕ) → (c == 39) ≡ false → step (after_hash stack forms) at c ≡ Err BadToken
unfolding step
bad_hash stack forms at c e = rw e refl

pub long_token : (stack : List Frame) (forms : Forms) (token : List ℕ) (at c : ℕ) → ends_token c ≡ false → 1000 ≤ length token → step (at_token stack forms token) at c ≡ Err BadToken
unfolding step in_token
long_token stack forms token at c e h = rw (e, le-ltb (length token) 1000 h) refl

pub trailing : (stack : List Frame) (forms : Forms) (at c : ℕ) → is_full forms ≡ true → is_space c ≡ false → (c == 59) ≡ false → step (ready stack forms) at c ≡ Err TrailingText
unfolding step between
trailing stack forms at c e a b = rw (a, b, e) refl

pub finish-open : (frame : Frame) (stack : List Frame) (forms : Forms) → finish (ready (frame ∷ stack) forms) ≡ Err Unclosed
unfolding finish
finish-open frame stack forms = refl

pub finish-ready : (forms : Forms) → finish (ready [] forms) ≡ Ok forms.placed
unfolding finish
finish-ready forms = refl

pub finish-hash : (stack : List Frame) (forms : Forms) → finish (after_hash stack forms) ≡ Err BadToken
unfolding finish
finish-hash stack forms = refl

pub finish-string : (stack : List Frame) (forms : Forms) (text : List ℕ) → finish (at_string stack forms text) ≡ Err Unclosed
unfolding finish
finish-string stack forms text = refl

pub finish-escape : (stack : List Frame) (forms : Forms) (text : List ℕ) → finish (at_escape stack forms text) ≡ Err Unclosed
unfolding finish
finish-escape stack forms text = refl
