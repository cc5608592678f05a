-- When a text is too large to be one.
use Rattle.std.proofs.Common.{◌≡◌, ◌∙◌, ℕ, ◌+◌, ◌<◌, ◌≤◌, Bool, true, false, List, ◌++◌, length, length-append, ap, sym, refl, arith}
use Rattle.std.specs.Prelude.{◌||◌, nat_lt, if◌then◌else◌, Option, Some, None}
use Rattle.std.proofs.lemmas.Bool.{le-ltb, lt-ltb}
use Rattle.lisp_data.specs.Value.{condition_depth_step, condition_weight_step, depth_of, depth_step, weight_of, weight_step}
use Rattle.lisp_data.specs.declared.value.Value.TheOpen.{Value-F}
use Rattle.lisp_data.specs.declared.value.Value.TheFolds.{fold-roll-Value}
use Rattle.lisp_data.specs.declared.value.Value.TheVariants as value
use Rattle.lisp_data.specs.declared.value.Value.TheVariants.{rolls-Str}
use Rattle.lisp_errors.specs.Limits.{max_depth, max_weight, is_too_large}
use Rattle.swank_rpc.specs.Texts.{within}

weight-string : (text : List ℕ) → weight_of (value.Str text) ≡ 1 + length text
weight-string text = ap weight_of (sym (rolls-Str text)) ∙ fold-roll-Value ℕ ℕ weight_step condition_weight_step (Value-F.Str text)

depth-string : (text : List ℕ) → depth_of (value.Str text) ≡ 0
depth-string text = ap depth_of (sym (rolls-Str text)) ∙ fold-roll-Value ℕ ℕ depth_step condition_depth_step (Value-F.Str text)

chosen : Bool → List ℕ → Option (List ℕ)
chosen too_large text = if too_large then None else Some text

none-chosen : (heavy deep : Bool) (text : List ℕ) → heavy ≡ true → chosen (heavy || deep) text ≡ None
unfolding chosen
none-chosen true deep text h = refl
none-chosen false deep text h = absurd (cc)

some-chosen : (heavy deep : Bool) (text : List ℕ) → heavy ≡ false → deep ≡ false → chosen (heavy || deep) text ≡ Some text
unfolding chosen
some-chosen false false text h d = refl
some-chosen true deep text h d = absurd (cc)
some-chosen false true text h d = absurd (cc)

pub within-none : (text : List ℕ) → max_weight ≤ length text → within text ≡ None
unfolding is_too_large chosen
within-none text h =
    let w = weight-string text in
    none-chosen (nat_lt max_weight (weight_of (value.Str text))) (nat_lt max_depth (depth_of (value.Str text))) text
    (lt-ltb max_weight (weight_of (value.Str text)) (omega (arith, w, h)))

pub within-some : (text : List ℕ) → length text < max_weight → within text ≡ Some text
unfolding is_too_large chosen
within-some text h =
    let w = weight-string text in
    let d = depth-string text in
    some-chosen (nat_lt max_weight (weight_of (value.Str text))) (nat_lt max_depth (depth_of (value.Str text))) text
    (le-ltb max_weight (weight_of (value.Str text)) (omega (arith, w, h)))
    (le-ltb max_depth (depth_of (value.Str text)) (omega (arith, d)))

-- the length of a text with another before and after it
pub length-between : (before text after : List ℕ) → length (before ++ text ++ after) ≡ length before + (length text + length after)
length-between before text after =
    let all = length-append (before ++ text) after in
    let front = length-append before text in
    omega (arith, all, front)
