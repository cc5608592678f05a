-- Conditions by their type and message.
use Rattle.std.specs.Prelude.{ℕ, List, []}
use Rattle.lisp_data.specs.declared.type_id.TypeId.{TypeId}
use Rattle.lisp_data.specs.declared.value.Value.{Value}
use Rattle.lisp_data.specs.declared.value.Value.TheVariants as value
use Rattle.lisp_data.specs.declared.value.Condition.{Condition}

-- a condition with no datum, which is NIL
abbrev pub without_datum : TypeId → List ℕ → Condition
without_datum kind message = record { kind = kind; message = message; datum = value.List [] }

-- a condition with a datum
abbrev pub with_datum : TypeId → List ℕ → Value → Condition
with_datum kind message datum = record { kind = kind; message = message; datum = datum }
