-- What makes a list or a string too large.
use Rattle.std.proofs.Common.{◌≡◌, ℕ, ◌+◌, ◌<◌, ◌≤◌, Bool, true, false, List, length, map, sum, ap, sym, ◌∙◌, refl, arith}
use Rattle.std.specs.Prelude.{◌||◌, nat_lt, if◌then◌else◌, Result, Ok, Err}
use Rattle.std.proofs.lemmas.Bool.{lt-ltb}
use Rattle.lisp_data.specs.Value.{weight_of, weight_step, condition_weight_step, depth_of}
use Rattle.lisp_data.specs.declared.value.Value.{Value}
use Rattle.lisp_data.specs.declared.value.Value.TheOpen.{Value-F}
use Rattle.lisp_data.specs.declared.value.Value.TheFolds.{fold-roll-Value}
use Rattle.lisp_data.specs.declared.value.Value.TheVariants as value
use Rattle.lisp_data.specs.declared.value.Value.TheVariants.{rolls-Str, rolls-List}
use Rattle.lisp_data.specs.declared.value.Condition.{Condition}
use Rattle.lisp_errors.specs.Limits.{max_weight, is_too_large, value_too_large}
use Rattle.lisp_builtins.specs.Answers.{Answers, Makes, within_limits}
use Rattle.lisp_builtins.specs.declared.fault.BuiltinFault.{BuiltinFault}
use Rattle.lisp_builtins.specs.declared.fault.BuiltinFault.TheVariants.{Raised, NoMemory}

weight-list : (xs : List Value) → weight_of (value.List xs) ≡ 1 + sum (map weight_of xs)
weight-list xs = ap weight_of (sym (rolls-List xs)) ∙ fold-roll-Value ℕ ℕ weight_step condition_weight_step (Value-F.List xs)

weight-string : (text : List ℕ) → weight_of (value.Str text) ≡ 1 + length text
weight-string text = ap weight_of (sym (rolls-Str text)) ∙ fold-roll-Value ℕ ℕ weight_step condition_weight_step (Value-F.Str text)

chosen : Bool → Value → Result Value Condition
chosen too_large v = if too_large then Err value_too_large else Ok v

over : (heavy deep : Bool) (v : Value) → heavy ≡ true → chosen (heavy || deep) v ≡ Err value_too_large
unfolding chosen
over true deep v h = refl
over false deep v h = absurd (cc)

too_heavy : (v : Value) → max_weight < weight_of v → within_limits (Ok v) ≡ Err value_too_large
unfolding is_too_large chosen
too_heavy v h = over (nat_lt max_weight (weight_of v)) (nat_lt 1000 (depth_of v)) v (lt-ltb max_weight (weight_of v) h)

-- a list whose items alone weigh as much as any value may
pub heavy_list : (xs : List Value) → max_weight ≤ sum (map weight_of xs) → within_limits (Ok (value.List xs)) ≡ Err value_too_large
heavy_list xs h = let w = weight-list xs in too_heavy (value.List xs) (omega (arith, w, h))

-- a string of as many octets
pub heavy_string : (text : List ℕ) → max_weight ≤ length text → within_limits (Ok (value.Str text)) ≡ Err value_too_large
heavy_string text h = let w = weight-string text in too_heavy (value.Str text) (omega (arith, w, h))

-- the refusal of a value that is too large
pub refused_size : (r : Result Value BuiltinFault) (answer : Result Value Condition) → Answers r (Err value_too_large) → within_limits answer ≡ Err value_too_large → Makes r answer
refused_size (Ok v) answer is e = absurd (cc)
refused_size (Err (Raised c)) answer is e = e ∙ is
refused_size (Err NoMemory) answer is e = tt

-- an answer that is exact may be one that is not too large
pub answers_make : (r : Result Value BuiltinFault) (answer : Result Value Condition) → Answers r answer → Makes r answer
answers_make (Ok v) answer is = is
answers_make (Err (Raised c)) answer is = ap within_limits is
answers_make (Err NoMemory) answer is = tt
