-- The forms whose wire text is read back as the same form.
use mir.Syntax.{w64}
use Rattle.std.specs.Prelude.{◌≡◌, ℕ, suc, ◌<◌, ℤ, false, List, [], ◌∷◌, length, codes, FitsSigned}
use Rattle.std.specs.List.{list_any}
use Rattle.std.specs.Str.{chars, IsUtf8}
use Rattle.lisp_data.specs.declared.sexp.Sexp.{Sexp}
use Rattle.lisp_data.specs.declared.sexp.Sexp.TheVariants as form
use Rattle.sexp_reader.specs.Tokens.{ends_token, uppercase, IsBad, IsNoInteger}

-- a symbol's token, as characters: one or more, none of which ends a token; a good token, in upper case, that is neither NIL
-- nor an optional sign and one or more digits
pub record IsPlainToken (token : List ℕ) : Type 0 where
  pub not_empty : 0 < length token
  pub unbroken : list_any ends_token token ≡ false
  pub good : ¬ IsBad token
  pub upper : uppercase token ≡ token
  pub not_nil : ¬ (token ≡ codes "NIL")
  pub no_integer : IsNoInteger token

-- a form with such symbols, in which at most n lists are open at once. NIL opens none. The range of integers and the encoding
-- of texts hold of every form that the program has.
mutual
  pub data IsPlain : ℕ → Sexp → Type 0 where
    integer : (n : ℕ) (z : ℤ) → FitsSigned w64 z → IsPlain n (form.Int z)
    string : (n : ℕ) (text : List ℕ) → IsUtf8 text → IsPlain n (form.Str text)
    symbol : (n : ℕ) (token : List ℕ) → IsUtf8 token → IsPlainToken (chars token) → IsPlain n (form.Sym token)
    nil : (n : ℕ) → IsPlain n (form.List [])
    list : (n : ℕ) (x : Sexp) (xs : List Sexp) → IsPlain n x → ArePlain n xs → IsPlain (suc n) (form.List (x ∷ xs))

  -- the same of each of these forms
  pub data ArePlain : ℕ → List Sexp → Type 0 where
    none : (n : ℕ) → ArePlain n []
    more : (n : ℕ) (x : Sexp) (xs : List Sexp) → IsPlain n x → ArePlain n xs → ArePlain n (x ∷ xs)
