-- The forms that texts spell, by cases. A text is a list of characters, and `rest` is what follows in it. Chapter 2 of the
-- HyperSpec, cut to what the subset reads: lists, quote marks, strings, tokens, and comments to the end of the line.
use Rattle.std.specs.Prelude.{◌≡◌, ◌==◌, ℕ, suc, ◌-◌, ◌≤◌, true, false, List, [], ◌∷◌, length, codes, encode_utf8_all, FitsSigned, ℤ}
use mir.Syntax.{w64}
use Rattle.lisp_data.specs.declared.sexp.Sexp.{Sexp}
use Rattle.lisp_data.specs.declared.sexp.Sexp.TheVariants as form
use Rattle.sexp_reader.specs.declared.placed.Placed.{Placed}
use Rattle.sexp_reader.specs.Tokens.{is_space, ends_token, max_characters, uppercase, IsNil, IsInteger, IsNoInteger, IsBad}

-- after a semicolon: up to the next newline, or to the end of the text (HyperSpec 2.4.4)
pub data Comment : List ℕ → List ℕ → Type 0 where
  at_end : Comment [] []
  at_newline : (t : List ℕ) → Comment (10 ∷ t) (10 ∷ t)
  goes_on : (c : ℕ) (t rest : List ℕ) → (c == 10) ≡ false → Comment t rest → Comment (c ∷ t) rest

-- whitespace and comments, or nothing (HyperSpec 2.2)
pub data Gap : List ℕ → List ℕ → Type 0 where
  nothing : (t : List ℕ) → Gap t t
  space : (c : ℕ) (t rest : List ℕ) → is_space c ≡ true → Gap t rest → Gap (c ∷ t) rest
  comment : (t after rest : List ℕ) → Comment t after → Gap after rest → Gap (59 ∷ t) rest

-- a string's characters, up to its end quote; a backslash gives the character after it (HyperSpec 2.4.5)
pub data Body : List ℕ → List ℕ → List ℕ → Type 0 where
  end_quote : (t : List ℕ) → Body (34 ∷ t) [] t
  escaped : (c : ℕ) (t content rest : List ℕ) → Body t content rest → Body (92 ∷ c ∷ t) (c ∷ content) rest
  plain : (c : ℕ) (t content rest : List ℕ) → (c == 34) ≡ false → (c == 92) ≡ false → Body t content rest → Body (c ∷ t) (c ∷ content) rest

-- a token's characters, up to what ends it (HyperSpec 2.2)
pub data Taken : List ℕ → List ℕ → List ℕ → Type 0 where
  to_end : Taken [] [] []
  to_next : (c : ℕ) (t : List ℕ) → ends_token c ≡ true → Taken (c ∷ t) [] (c ∷ t)
  takes : (c : ℕ) (t token rest : List ℕ) → ends_token c ≡ false → Taken t token rest → Taken (c ∷ t) (c ∷ token) rest

-- a token of one or more characters
pub data Token : List ℕ → List ℕ → List ℕ → Type 0 where
  token : (c : ℕ) (t others rest : List ℕ) → ends_token c ≡ false → Taken t others rest → Token (c ∷ t) (c ∷ others) rest

-- what a quote mark makes of a form: the list of the mark's name and the form (HyperSpec 2.4.3 and 2.4.8.2)
abbrev pub quoted : List ℕ → Sexp → Sexp
quoted name inner = form.List (form.Sym name ∷ inner ∷ [])

-- how many lists and quote marks may be open at once
abbrev pub max_open : ℕ
max_open = 500

-- `Spells n t x rest`: t is a spelling of the form x, with at most n lists and quote marks open at once in it, and then rest.
-- A list in parentheses (HyperSpec 2.4.1), a form after `'` or `#'`, a string, an integer (2.3.2.1.1), NIL, or a symbol (2.3.4)
mutual
  pub data Spells : ℕ → List ℕ → Sexp → List ℕ → Type 0 where
    list : (n : ℕ) (t rest : List ℕ) (xs : List Sexp) → Items n t xs rest → Spells (suc n) (40 ∷ t) (form.List xs) rest
    quote : (n : ℕ) (t inner rest : List ℕ) (x : Sexp) → Gap t inner → Spells n inner x rest → Spells (suc n) (39 ∷ t) (quoted (codes "QUOTE") x) rest
    function : (n : ℕ) (t inner rest : List ℕ) (x : Sexp) → Gap t inner → Spells n inner x rest → Spells (suc n) (35 ∷ 39 ∷ t) (quoted (codes "FUNCTION") x) rest
    string : (n : ℕ) (t content rest : List ℕ) → Body t content rest → Spells n (34 ∷ t) (form.Str (encode_utf8_all content)) rest
    integer : (n : ℕ) (t token rest : List ℕ) (z : ℤ) → Token t token rest → length token ≤ max_characters → IsInteger token z → FitsSigned w64 z → Spells n t (form.Int z) rest
    nil : (n : ℕ) (t token rest : List ℕ) → Token t token rest → IsNil token → Spells n t (form.List []) rest
    symbol : (n : ℕ) (t token rest : List ℕ) → Token t token rest → ¬ IsBad token → IsNoInteger token → ¬ IsNil token → Spells n t (form.Sym (encode_utf8_all (uppercase token))) rest

  -- forms, and the `)` after them
  pub data Items : ℕ → List ℕ → List Sexp → List ℕ → Type 0 where
    close : (n : ℕ) (t rest : List ℕ) → Gap t (41 ∷ rest) → Items n t [] rest
    item : (n : ℕ) (t inner after rest : List ℕ) (x : Sexp) (xs : List Sexp) → Gap t inner → Spells n inner x after → Items n after xs rest → Items n t (x ∷ xs) rest

-- how many characters of the text stand before this rest of it
unfoldable pub place : List ℕ → List ℕ → ℕ
place text rest = length text - length rest

-- the text is a spelling of one form, with whitespace and comments around it
pub record IsSpelled (text : List ℕ) (x : Sexp) : Type 0 where
  pub before : List ℕ
  pub after : List ℕ
  pub leads : Gap text before
  pub spells : Spells max_open before x after
  pub ends : Gap after []

-- `SpellsAll text t placed`: t, the rest of a text, is a spelling of these forms one after another, each with its place
pub data SpellsAll (text : List ℕ) : List ℕ → List Placed → Type 0 where
  ends : (t : List ℕ) → Gap t [] → SpellsAll text t []
  next : (t inner after : List ℕ) (x : Sexp) (more : List Placed) → Gap t inner → Spells max_open inner x after → SpellsAll text after more
      → SpellsAll text t (record { form = x; at = place text inner } ∷ more)

-- the text is a spelling of these forms, with whitespace and comments between and around them
abbrev pub AreSpelled : List ℕ → List Placed → Type 0
AreSpelled text placed = SpellsAll text text placed
