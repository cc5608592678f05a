-- The folds of forms and of values, a lemma a variant. A fold does not compute at a variant: these equations are rewritten by.
use Rattle.std.proofs.Common.{◌≡◌, ◌∙◌, ap, sym, ℕ, ℤ, List, map}
use Rattle.lisp_data.specs.declared.sexp.Sexp.{Sexp}
use Rattle.lisp_data.specs.declared.sexp.Sexp.TheOpen.{Sexp-F}
use Rattle.lisp_data.specs.declared.sexp.Sexp.TheFolds.{fold-Sexp, fold-roll-Sexp}
use Rattle.lisp_data.specs.declared.sexp.Sexp.TheVariants as form
use Rattle.lisp_data.specs.declared.symbol.Symbol.{Symbol}
use Rattle.lisp_data.specs.declared.value.Value.{Value}
use Rattle.lisp_data.specs.declared.value.Value.TheOpen.{Value-F, Condition-F}
use Rattle.lisp_data.specs.declared.value.Value.TheFolds.{fold-Value, fold-roll-Value}
use Rattle.lisp_data.specs.declared.value.Value.TheVariants as value
use Rattle.lisp_syntax.specs.Parsing.{node}
use Rattle.syntax_trees.specs.Places.{row_of, forms_of}
use Rattle.syntax_trees.specs.declared.ast.Ast.{Ast}
use Rattle.syntax_trees.specs.declared.ast.Ast.TheOpen.{Ast-F}
use Rattle.syntax_trees.specs.declared.ast.Ast.TheViews.{out-roll-Ast}
use Rattle.syntax_trees.specs.declared.row.Row.{Row}

-- ---- forms

module _ {A : Type 0} (step : Sexp-F A → A) where
  pub form-int : (z : ℤ) → fold-Sexp A step (form.Int z) ≡ step (Sexp-F.Int z)
  form-int z = ap (fold-Sexp A step) (sym (form.rolls-Int z)) ∙ fold-roll-Sexp A step (Sexp-F.Int z)

  pub form-str : (text : List ℕ) → fold-Sexp A step (form.Str text) ≡ step (Sexp-F.Str text)
  form-str text = ap (fold-Sexp A step) (sym (form.rolls-Str text)) ∙ fold-roll-Sexp A step (Sexp-F.Str text)

  pub form-sym : (token : List ℕ) → fold-Sexp A step (form.Sym token) ≡ step (Sexp-F.Sym token)
  form-sym token = ap (fold-Sexp A step) (sym (form.rolls-Sym token)) ∙ fold-roll-Sexp A step (Sexp-F.Sym token)

  pub form-list : (xs : List Sexp) → fold-Sexp A step (form.List xs) ≡ step (Sexp-F.List (map (fold-Sexp A step) xs))
  form-list xs = ap (fold-Sexp A step) (sym (form.rolls-List xs)) ∙ fold-roll-Sexp A step (Sexp-F.List xs)

-- ---- values

module _ {A B : Type 0} (step : Value-F A B → A) (condition : Condition-F A B → B) where
  pub value-int : (z : ℤ) → fold-Value A B step condition (value.Int z) ≡ step (Value-F.Int z)
  value-int z = ap (fold-Value A B step condition) (sym (value.rolls-Int z)) ∙ fold-roll-Value A B step condition (Value-F.Int z)

  pub value-str : (text : List ℕ) → fold-Value A B step condition (value.Str text) ≡ step (Value-F.Str text)
  value-str text = ap (fold-Value A B step condition) (sym (value.rolls-Str text)) ∙ fold-roll-Value A B step condition (Value-F.Str text)

  pub value-sym : (s : Symbol) → fold-Value A B step condition (value.Sym s) ≡ step (Value-F.Sym s)
  value-sym s = ap (fold-Value A B step condition) (sym (value.rolls-Sym s)) ∙ fold-roll-Value A B step condition (Value-F.Sym s)

  pub value-list : (xs : List Value) → fold-Value A B step condition (value.List xs) ≡ step (Value-F.List (map (fold-Value A B step condition) xs))
  value-list xs = ap (fold-Value A B step condition) (sym (value.rolls-List xs)) ∙ fold-roll-Value A B step condition (Value-F.List xs)

-- ---- trees

pub row-node : (r : Row) (ts : List Ast) → row_of (node r ts) ≡ r
row-node r ts = ap (λ (f : Ast-F Ast). f.row) (out-roll-Ast (record { row = r; forms = ts }))

pub forms-node : (r : Row) (ts : List Ast) → forms_of (node r ts) ≡ ts
forms-node r ts = ap (λ (f : Ast-F Ast). f.forms) (out-roll-Ast (record { row = r; forms = ts }))
