-- The functions that have one step, and the texts of control texts, as the crates of functions and of formatting define them.
use Rattle.std.specs.Prelude.{ℕ, Bool, true, false, is_some, List, [], ◌∷◌, Option, Some, None, option_map, Result, Ok, Err, codes}
use Rattle.std.specs.List.{list_any}
use Rattle.lisp_builtins.specs.Names.{op_of}
use Rattle.lisp_builtins.specs.Outcome as builtins
use Rattle.lisp_data.specs.Symbols.{names}
use Rattle.lisp_data.specs.declared.symbol.Symbol.{Symbol}
use Rattle.lisp_data.specs.declared.value.Value.{Value}
use Rattle.lisp_data.specs.declared.value.Condition.{Condition}
use Rattle.lisp_format.specs.Causes.{cause_of}
use Rattle.lisp_format.specs.Formatted as format
use Rattle.lisp_format.specs.declared.fault.FormatFault.{FormatFault}
use Rattle.step_model.specs.CurrentPackage.{user_package}

-- whether a symbol names a function with one step
abbrev pub is_one_step : Symbol → Bool
is_one_step g = is_some (op_of g)

-- what such a function gives, with the full name of the current package; None where the symbol names none
abbrev pub outcome : List ℕ → Symbol → List Value → Option (Result Value Condition)
outcome current g vs = option_map (λ op. builtins.outcome op vs current) (op_of g)

-- the names of the functions that a thread calls by itself (HyperSpec 12.2, 14.2 and 5.3)
abbrev pub listed_functions : List (List ℕ)
listed_functions =
    codes "+" ∷ codes "-" ∷ codes "*" ∷ codes "1+" ∷ codes "1-" ∷ codes "=" ∷ codes "<" ∷ codes ">" ∷ codes "<=" ∷ codes ">="
    ∷ codes "NULL" ∷ codes "NOT" ∷ codes "EQ" ∷ codes "CAR" ∷ codes "CDR" ∷ []

-- a symbol of COMMON-LISP with one of these names
abbrev pub is_listed_function : Symbol → Bool
is_listed_function g = list_any (names g) listed_functions

-- the value that an outcome is
abbrev pub value_given : Option (Result Value Condition) → Option Value
value_given (Some (Ok v)) = Some v
value_given (Some (Err condition)) = None
value_given None = None

abbrev pub value_if : Bool → Option Value → Option Value
value_if true o = o
value_if false o = None

-- the value of a listed function, None where it raises. It is the same in every package, so one is named here
abbrev pub alone : Symbol → List Value → Option Value
alone g vs = value_if (is_listed_function g) (value_given (outcome user_package g vs))

abbrev pub text_or_cause : Result (List ℕ) FormatFault → Result (List ℕ) Condition
text_or_cause (Ok text) = Ok text
text_or_cause (Err fault) = Err (cause_of fault)

-- the text of a control text over arguments, or the condition that its fault raises
abbrev pub formatted : List ℕ → List ℕ → List Value → Result (List ℕ) Condition
formatted current control vs = text_or_cause (format.formatted current control vs)
