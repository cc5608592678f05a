-- The announcement of a level on a type error.
use Rattle.std.proofs.Common.{◌≡◌, ◌∙◌, refl, ℕ, List, pos, codes, arith, false}
use Rattle.std.specs.Fmt.{decimal}
use Rattle.std.proofs.lemmas.Fmt.{decimal-digits_of}
use Rattle.lisp_data.specs.Value.{condition_depth_of, condition_depth_step, condition_weight_of, condition_weight_step, depth_step, weight_step}
use Rattle.lisp_data.specs.declared.value.Value.TheFolds.{fold_out-Condition}
use Rattle.lisp_data.specs.declared.value.Value.TheVariants as value
use Rattle.lisp_errors.specs.Causes.{wrong_kind}
use Rattle.lisp_errors.specs.Limits.{is_condition_too_large, limited}
use Rattle.lisp_errors.specs.declared.wanted.Wanted.TheVariants as wanted
use Rattle.sexp_printer.specs.Printed.{shown}
use Rattle.step_model.specs.Announcing.{debug_message}
use Rattle.step_model.specs.CurrentPackage.{user_package}
use Rattle.worked_sessions.specs.Announcement.{announcement, around, asked, error}
use Rattle.worked_sessions.specs.FirstImage.{image}
use Rattle.worked_sessions.proofs.ReadingLemmas.{chars-plain}
use Rattle.worked_sessions.proofs.VariantLemmas.{form-list, form-str, form-sym, value-int}

one-shown : decimal 1 ≡ codes "1"
one-shown = decimal-digits_of 1 (omega arith) (omega arith) ∙ refl

weighs : condition_weight_of error ≡ 34
weighs = fold_out-Condition ℕ ℕ weight_step condition_weight_step error ∙ simp (value-int)

deep : condition_depth_of error ≡ 1
deep = fold_out-Condition ℕ ℕ depth_step condition_depth_step error ∙ simp (value-int)

fits : is_condition_too_large error ≡ false
unfolding is_condition_too_large
fits = rw (weighs, deep) refl

pub error-is : wrong_kind user_package (value.Int (pos 1)) wanted.List ≡ error
unfolding wrong_kind limited
error-is = rw (value-int, one-shown, fits) refl

abbrev shown_asked : List ℕ
shown_asked = codes "(SWANK:INTERACTIVE-EVAL \"(car 1)\")"

asked-shown : shown asked ≡ shown_asked
unfolding lib.Utf8.encode
asked-shown = simp (form-list, form-sym, form-str, chars-plain (codes "SWANK:INTERACTIVE-EVAL") refl, chars-plain (codes "(car 1)") refl)

pub announced : debug_message image 2 1 error around ≡ announcement
unfolding debug_message
announced = rw (asked-shown, chars-plain (codes "The value 1 is not of type LIST.") refl, chars-plain (codes "*ABORT") refl, chars-plain (codes "Return to SLIME's top level.") refl, chars-plain shown_asked refl) refl
