-- The limits of values, and what is raised where one would be passed.
use Rattle.std.specs.Prelude.{ℕ, ◌^◌, ◌||◌, Bool, nat_lt, if◌then◌else◌, codes}
use Rattle.lisp_data.specs.Value.{weight_of, depth_of, condition_weight_of, condition_depth_of}
use Rattle.lisp_data.specs.declared.type_id.TypeId.TheVariants as type
use Rattle.lisp_data.specs.declared.value.Value.{Value}
use Rattle.lisp_data.specs.declared.value.Condition.{Condition}
use Rattle.lisp_errors.specs.Texts.{without_datum}

-- the weight that no value passes
abbrev pub max_weight : ℕ
max_weight = 2 ^ 20

-- the depth that no value passes
abbrev pub max_depth : ℕ
max_depth = 1000

-- whether a weight or a depth passes its limit
abbrev pub passes_limit : ℕ → ℕ → Bool
passes_limit weight depth = nat_lt max_weight weight || nat_lt max_depth depth

-- whether a value weighs too much or is too deep
unfoldable pub is_too_large : Value → Bool
is_too_large value = passes_limit (weight_of value) (depth_of value)

-- the same of a condition
unfoldable pub is_condition_too_large : Condition → Bool
is_condition_too_large condition = passes_limit (condition_weight_of condition) (condition_depth_of condition)

-- a value or a text would be too large (HyperSpec, condition type STORAGE-CONDITION)
unfoldable pub value_too_large : Condition
value_too_large = without_datum type.StorageCondition (codes "Value too large.")

-- the condition that is raised in place of this one: itself, or, where it is too large, the one that says so
unfoldable pub limited : Condition → Condition
limited condition = if is_condition_too_large condition then value_too_large else condition
