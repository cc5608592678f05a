-- What makes a condition too large.
use Rattle.std.proofs.Common.{◌≡◌, ℕ, ◌<◌, ◌+◌, ◌++◌, Bool, None, Some, List, true, false, length, arith, length-append, ap, refl}
use Rattle.std.proofs.lemmas.Bool.{lt-ltb, ltb-true}
use Rattle.std.specs.Prelude.{◌||◌, nat_lt, if◌then◌else◌}
use Rattle.lisp_data.specs.Value.{weight_of, weight_step, condition_weight_step, condition_weight_of, condition_depth_of}
use Rattle.lisp_data.specs.declared.type_id.TypeId.{TypeId}
use Rattle.lisp_data.specs.declared.value.Value.{Value}
use Rattle.lisp_data.specs.declared.value.Value.TheFolds.{fold_out-Condition}
use Rattle.lisp_errors.specs.Causes.{naming, message_within}
use Rattle.lisp_errors.specs.Limits.{max_weight, value_too_large, limited, is_condition_too_large}
use Rattle.lisp_errors.specs.Texts.{with_datum}
use Rattle.sexp_printer.specs.UserText.{user_text}

-- a condition's weight, by its parts
weight-with_datum : (kind : TypeId) (message : List ℕ) (datum : Value) → condition_weight_of (with_datum kind message datum) ≡ 1 + length message + weight_of datum
weight-with_datum kind message datum = fold_out-Condition ℕ ℕ weight_step condition_weight_step (with_datum kind message datum)

-- a message that holds too long a text is too long
longer : (before text after : List ℕ) (m : ℕ) → m < length text → m < length (before ++ text ++ after)
longer before text after m h = simp length-append (omega arith)

limited-over : {A : Type 0} (heavy deep : Bool) (a b : A) → heavy ≡ true → (if heavy || deep then a else b) ≡ a
limited-over heavy deep a b h = ap (λ (t : Bool). if t || deep then a else b) h

-- a condition whose message names a value with too long a text
pub limited-too_long : (kind : TypeId) (current before : List ℕ) (value : Value) (after : List ℕ) (datum : Value) → max_weight < length (user_text current true value) → limited (with_datum kind (naming current before value after) datum) ≡ value_too_large
unfolding limited is_condition_too_large
limited-too_long kind current before value after datum h =
    let message = naming current before value after in
    let condition = with_datum kind message datum in
    let long : max_weight < length message = longer before (user_text current true value) after max_weight h in
    let heavy : max_weight < condition_weight_of condition = rw (weight-with_datum kind message datum) (omega arith) in
    limited-over (nat_lt max_weight (condition_weight_of condition)) (nat_lt 1000 (condition_depth_of condition)) value_too_large condition (lt-ltb max_weight (condition_weight_of condition) heavy)

-- a choice that gives None chose it
none-true : (b : Bool) (text : List ℕ) → (if b then None else Some text) ≡ None → b ≡ true
none-true true text e = refl
none-true false text e = cc

-- the same from the test of the text's length
pub limited-none : (kind : TypeId) (current before : List ℕ) (value : Value) (after : List ℕ) (datum : Value) → message_within current before value after ≡ None → limited (with_datum kind (naming current before value after) datum) ≡ value_too_large
limited-none kind current before value after datum e = limited-too_long kind current before value after datum (ltb-true max_weight (length (user_text current true value)) (none-true (nat_lt max_weight (length (user_text current true value))) (naming current before value after) e))
