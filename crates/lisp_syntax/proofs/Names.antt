-- Operators are found by their names alone, and what heads a form is what it is read as.
use Rattle.std.proofs.Common.{◌≡◌, ◌↔◌, Bool, true, false, not, ◌&&◌, ◌||◌, refl, sym, ap, ◌∙◌}
use Rattle.std.specs.Prelude.{Some, codes}
use Rattle.std.specs.Str.{bytes_eq}
use Rattle.std.proofs.lemmas.Bool.{and_parts}
use Rattle.lisp_data.specs.declared.symbol.Symbol.{Symbol}
use Rattle.lisp_data.specs.declared.value.Value.{Value}
use Rattle.lisp_data.specs.declared.value.Value as value
use Rattle.lisp_data.specs.Symbols.{cl, is_keyword, is_of_common_lisp, names, value_of_symbol}
use Rattle.syntax_trees.specs.declared.row.Bare.TheVariants as bare
use Rattle.syntax_trees.specs.declared.row.Holder.TheVariants as holder
use Rattle.lisp_syntax.specs.declared.operator.Operator.{Operator}
use Rattle.lisp_syntax.specs.declared.operator.Operator.TheVariants as op
use Rattle.lisp_syntax.specs.declared.operator.TheConstants.{OPERATORS}
use Rattle.lisp_syntax.specs.Symbols.{is_readable}
use Rattle.lisp_syntax.specs.Operators.{name_of, operator_named, operator_of}
use Rattle.lisp_syntax.proofs.Options.{chosen, found}
use Rattle.lisp_syntax.proofs.Words.{same-bytes, symbol-from}

-- no operator is NIL
pub operator-form : (o : Operator) → value_of_symbol (cl (name_of o)) ≡ value.Sym (cl (name_of o))
operator-form op.Quote = refl
operator-form op.Function = refl
operator-form (op.Bare bare.If) = refl
operator-form (op.Bare bare.When) = refl
operator-form (op.Bare bare.Unless) = refl
operator-form (op.Bare bare.Cond) = refl
operator-form (op.Bare bare.And) = refl
operator-form (op.Bare bare.Or) = refl
operator-form (op.Bare bare.Progn) = refl
operator-form (op.Bare bare.Return) = refl
operator-form (op.Bare bare.Loop) = refl
operator-form (op.Bare bare.Catch) = refl
operator-form (op.Bare bare.Throw) = refl
operator-form (op.Bare bare.UnwindProtect) = refl
operator-form (op.Bare bare.HandlerCase) = refl
operator-form (op.Bare bare.IgnoreErrors) = refl
operator-form (op.Bare bare.RestartCase) = refl
operator-form op.Block = refl
operator-form op.ReturnFrom = refl
operator-form (op.Held holder.DoTimes) = refl
operator-form (op.Held holder.DoList) = refl
operator-form (op.Held holder.Defvar) = refl
operator-form (op.Held holder.Defparameter) = refl
operator-form op.Let = refl
operator-form op.LetStar = refl
operator-form op.Setq = refl
operator-form op.Defun = refl
operator-form op.HandlerBind = refl
operator-form op.WithSimpleRestart = refl
operator-form op.InPackage = refl
operator-form op.Defpackage = refl

pub operator-found : (o : Operator) → operator_of (cl (name_of o)) ≡ Some o
unfolding operator_of operator_named
operator-found op.Quote = refl
operator-found op.Function = refl
operator-found (op.Bare bare.If) = refl
operator-found (op.Bare bare.When) = refl
operator-found (op.Bare bare.Unless) = refl
operator-found (op.Bare bare.Cond) = refl
operator-found (op.Bare bare.And) = refl
operator-found (op.Bare bare.Or) = refl
operator-found (op.Bare bare.Progn) = refl
operator-found (op.Bare bare.Return) = refl
operator-found (op.Bare bare.Loop) = refl
operator-found (op.Bare bare.Catch) = refl
operator-found (op.Bare bare.Throw) = refl
operator-found (op.Bare bare.UnwindProtect) = refl
operator-found (op.Bare bare.HandlerCase) = refl
operator-found (op.Bare bare.IgnoreErrors) = refl
operator-found (op.Bare bare.RestartCase) = refl
operator-found op.Block = refl
operator-found op.ReturnFrom = refl
operator-found (op.Held holder.DoTimes) = refl
operator-found (op.Held holder.DoList) = refl
operator-found (op.Held holder.Defvar) = refl
operator-found (op.Held holder.Defparameter) = refl
operator-found op.Let = refl
operator-found op.LetStar = refl
operator-found op.Setq = refl
operator-found op.Defun = refl
operator-found op.HandlerBind = refl
operator-found op.WithSimpleRestart = refl
operator-found op.InPackage = refl
operator-found op.Defpackage = refl

operator-named : (s : Symbol) (o : Operator) → is_of_common_lisp s ≡ true → operator_named s.name ≡ Some o → s ≡ cl (name_of o)
unfolding operator_named
operator-named s o home e =
    symbol-from s (codes "COMMON-LISP") (name_of o) (same-bytes s.home (codes "COMMON-LISP") home) (sym (same-bytes (name_of o) s.name (found (λ p. bytes_eq (name_of p) s.name) OPERATORS o e)))

pub operator-back : (s : Symbol) (o : Operator) → operator_of s ≡ Some o → s ≡ cl (name_of o)
unfolding operator_of
operator-back s o e =
    let c = chosen (is_of_common_lisp s) (operator_named s.name) o e in
    operator-named s o c.test c.is

pub operators-iff : (s : Symbol) (o : Operator) → (operator_of s ≡ Some o) ↔ (s ≡ cl (name_of o))
operators-iff s o = (operator-back s o, λ e. ap operator_of e ∙ operator-found o)

-- ---- what may be read doesn't stand for itself

abbrev self_name : Symbol → Bool
self_name s = is_keyword s || names s (codes "T")

readable-package : (s : Symbol) → names s (codes "*PACKAGE*") ≡ true → self_name s ≡ false
readable-package s e =
    let p = and_parts (is_of_common_lisp s) (bytes_eq s.name (codes "*PACKAGE*")) e in
    ap self_name (symbol-from s (codes "COMMON-LISP") (codes "*PACKAGE*") (same-bytes s.home (codes "COMMON-LISP") p.0) (same-bytes s.name (codes "*PACKAGE*") p.1))

readable-at : (s : Symbol) (k c : Bool) → is_keyword s ≡ k → is_of_common_lisp s ≡ c → is_readable s ≡ true → self_name s ≡ false
readable-at s true true is home e = readable-package s (sym (ap (λ b. (not b && not (is_of_common_lisp s)) || names s (codes "*PACKAGE*")) is) ∙ e)
readable-at s false true is home e = readable-package s (sym (ap (λ b. (not (is_keyword s) && not b) || names s (codes "*PACKAGE*")) home ∙ ap (λ b. (b && false) || names s (codes "*PACKAGE*")) (ap not is)) ∙ e)
readable-at s true false is home e = absurd (cc (sym (ap (λ b. (not b && not (is_of_common_lisp s)) || (is_of_common_lisp s && bytes_eq s.name (codes "*PACKAGE*"))) is ∙ ap (λ b. b && bytes_eq s.name (codes "*PACKAGE*")) home) ∙ e))
readable-at s false false is home e = ap (λ b. b || names s (codes "T")) is ∙ ap (λ b. b && bytes_eq s.name (codes "T")) home

pub readable-no-self : (s : Symbol) → is_readable s ≡ true → self_name s ≡ false
readable-no-self s e = readable-at s (is_keyword s) (is_of_common_lisp s) refl refl e
