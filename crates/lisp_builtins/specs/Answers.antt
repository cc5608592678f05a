-- What a function answers: a value, or a condition that it raises.
use Rattle.std.specs.Prelude.{◌≡◌, ℕ, List, Result, Ok, Err, if◌then◌else◌}
use Rattle.lisp_data.specs.Symbols.{cl}
use Rattle.lisp_data.specs.declared.value.Value.{Value}
use Rattle.lisp_data.specs.declared.value.Value.TheVariants as value
use Rattle.lisp_data.specs.declared.value.Condition.{Condition}
use Rattle.lisp_errors.specs.Causes.{wrong_kind, wrong_number_of_arguments}
use Rattle.lisp_errors.specs.Limits.{is_too_large, value_too_large}
use Rattle.lisp_errors.specs.declared.wanted.Wanted.{Wanted}
use Rattle.lisp_builtins.specs.Names.{name_of}
use Rattle.lisp_builtins.specs.declared.fault.BuiltinFault.{BuiltinFault}
use Rattle.lisp_builtins.specs.declared.fault.BuiltinFault.TheVariants.{Raised, NoMemory}
use Rattle.lisp_builtins.specs.declared.op.Op.{Op}

-- a symbol of COMMON-LISP
abbrev pub standard_symbol : List ℕ → Value
standard_symbol name = value.Sym (cl name)

-- the answer to too few or too many arguments
abbrev pub refused_number : List ℕ → Op → Result Value Condition
refused_number current op = Err (wrong_number_of_arguments current (standard_symbol (name_of op)))

-- the answer to a value that is not of the kind wanted
abbrev pub refused_kind : List ℕ → Value → Wanted → Result Value Condition
refused_kind current value wanted = Err (wrong_kind current value wanted)

-- an answer within the limits: a value that is too large is none
abbrev pub within_limits : Result Value Condition → Result Value Condition
within_limits (Ok value) = if is_too_large value then Err value_too_large else Ok value
within_limits (Err condition) = Err condition

-- an answer that needs the value of another
abbrev pub and_then : {A B : Type 0} → Result A Condition → (A → Result B Condition) → Result B Condition
and_then (Ok a) next = next a
and_then (Err condition) next = Err condition

-- a call answers this, want of memory aside
abbrev pub Answers : {A : Type 0} → Result A BuiltinFault → Result A Condition → Type 0
Answers (Ok value) answer = answer ≡ Ok value
Answers (Err (Raised condition)) answer = answer ≡ Err condition
Answers (Err NoMemory) answer = Unit {0}

-- the same of a call that may refuse a value which is too large, and need not
abbrev pub Makes : Result Value BuiltinFault → Result Value Condition → Type 0
Makes (Ok value) answer = answer ≡ Ok value
Makes (Err (Raised condition)) answer = within_limits answer ≡ Err condition
Makes (Err NoMemory) answer = Unit {0}
