-- What is kept of a text from the beginning of its evaluation to the end, as one form: whether the text has a form, and the full name of
-- the global package at the beginning.
use Rattle.std.specs.Prelude.{ℕ, Bool, true, false, List, [], ◌∷◌, codes}
use Rattle.std.specs.Str.{bytes_eq}
use Rattle.lisp_data.specs.declared.sexp.Sexp.{Sexp}
use Rattle.lisp_data.specs.declared.sexp.Sexp.TheOpen.{Sexp-F}
use Rattle.lisp_data.specs.declared.sexp.Sexp.TheViews.{out-Sexp}
use Rattle.lisp_data.specs.declared.sexp.Sexp.TheVariants as form

-- the form of a truth value
abbrev pub truth : Bool → Sexp
truth true = form.Sym (codes "T")
truth false = form.List []

-- `(t PACKAGE)`, or `(nil PACKAGE)` where the text has no form
abbrev pub kept : Bool → List ℕ → Sexp
kept has_form global = form.List (truth has_form ∷ form.Str global ∷ [])

-- every form but NIL is true
abbrev pub is_true : Sexp-F Sexp → Bool
is_true (Sexp-F.List []) = false
is_true _ = true

abbrev pub first_is_true : Sexp-F Sexp → Bool
first_is_true (Sexp-F.List (first ∷ more)) = is_true (out-Sexp first)
first_is_true _ = false

-- whether the text has a form
abbrev pub has_form : Sexp → Bool
has_form kept = first_is_true (out-Sexp kept)

abbrev pub is_string : List ℕ → Sexp-F Sexp → Bool
is_string text (Sexp-F.Str other) = bytes_eq other text
is_string text _ = false

abbrev pub second_is_string : List ℕ → Sexp-F Sexp → Bool
second_is_string text (Sexp-F.List (first ∷ second ∷ more)) = is_string text (out-Sexp second)
second_is_string text _ = false

-- whether the global package had this full name at the beginning
abbrev pub began_in : Sexp → List ℕ → Bool
began_in kept global = second_is_string global (out-Sexp kept)
