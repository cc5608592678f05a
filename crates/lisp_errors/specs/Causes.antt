-- The conditions that the system itself raises, one definition a cause: its type, its message and its datum. Chapter 9 of the
-- HyperSpec has the types; the messages are this program's own. `current` is the full name of the current package.
use Rattle.std.specs.Prelude.{ℕ, ℤ, true, if◌then◌else◌, nat_lt, Option, Some, None, List, ◌++◌, length, codes}
use Rattle.std.specs.Fmt.{signed_decimal}
use Rattle.lisp_data.specs.declared.type_id.TypeId.TheVariants as type
use Rattle.lisp_data.specs.declared.value.Value.{Value}
use Rattle.lisp_data.specs.declared.value.Condition.{Condition}
use Rattle.lisp_errors.specs.declared.wanted.Wanted.{Wanted}
use Rattle.lisp_errors.specs.Limits.{max_weight, limited}
use Rattle.lisp_errors.specs.Texts.{with_datum, without_datum}
use Rattle.lisp_errors.specs.Wanted.{wanted_name}
use Rattle.sexp_printer.specs.UserText.{user_text}

-- a message that names a value: what stands before its user text, with escape, and what stands after
abbrev pub naming : List ℕ → List ℕ → Value → List ℕ → List ℕ
naming current before value after = before ++ user_text current true value ++ after

-- the same, where the value's text is within the limit of weight
abbrev pub message_within : List ℕ → List ℕ → Value → List ℕ → Option (List ℕ)
message_within current before value after =
    if nat_lt max_weight (length (user_text current true value)) then None else Some (naming current before value after)

-- a value that is not of the kind wanted (HyperSpec, condition type TYPE-ERROR)
unfoldable pub wrong_kind : List ℕ → Value → Wanted → Condition
wrong_kind current value wanted =
    limited (with_datum type.TypeError (naming current (codes "The value ") value (codes " is not of type " ++ wanted_name wanted ++ codes ".")) value)

-- a variable without a value (condition type UNBOUND-VARIABLE)
unfoldable pub unbound_variable : List ℕ → Value → Condition
unbound_variable current symbol =
    limited (with_datum type.UnboundVariable (naming current (codes "The variable ") symbol (codes " is unbound.")) symbol)

-- a symbol that names no function (condition type UNDEFINED-FUNCTION)
unfoldable pub undefined_function : List ℕ → Value → Condition
undefined_function current symbol =
    limited (with_datum type.UndefinedFunction (naming current (codes "The function ") symbol (codes " is undefined.")) symbol)

-- a call with too few or too many arguments (condition type PROGRAM-ERROR, and HyperSpec 3.5.1)
unfoldable pub wrong_number_of_arguments : List ℕ → Value → Condition
wrong_number_of_arguments current function =
    limited (without_datum type.ProgramError (naming current (codes "Wrong number of arguments for ") function (codes ".")))

-- a form that fits no row of the syntax (condition type PROGRAM-ERROR)
unfoldable pub bad_form : List ℕ → Value → Condition
bad_form current form = limited (without_datum type.ProgramError (naming current (codes "Bad form: ") form (codes "")))

-- a throw to a tag that no catch has (condition type CONTROL-ERROR)
unfoldable pub no_catch_tag : List ℕ → Value → Condition
no_catch_tag current tag = limited (without_datum type.ControlError (naming current (codes "No catch tag: ") tag (codes ".")))

-- a return from a block that isn't there (condition type CONTROL-ERROR)
unfoldable pub no_block : List ℕ → Value → Condition
no_block current name = limited (without_datum type.ControlError (naming current (codes "No block: ") name (codes ".")))

-- a restart that isn't there (condition type CONTROL-ERROR)
unfoldable pub no_restart : List ℕ → Value → Condition
no_restart current name = limited (without_datum type.ControlError (naming current (codes "No restart: ") name (codes ".")))

-- a request's function called with arguments that it doesn't take, by the name that it was called by
unfoldable pub bad_arguments : List ℕ → Condition
bad_arguments name = limited (without_datum type.ProgramError (codes "Bad arguments for " ++ name ++ codes "."))

-- a text that is no form, by the name of the reader's fault
unfoldable pub reader_fault : List ℕ → Condition
reader_fault fault = limited (without_datum type.SimpleError (codes "Reader: " ++ fault ++ codes "."))

-- a name that no package has, as it was looked up
unfoldable pub package_not_found : List ℕ → Condition
package_not_found name = limited (without_datum type.SimpleError (codes "Package " ++ name ++ codes " not found."))

-- a name, without its prefix, of no external symbol of the package with this full name
unfoldable pub symbol_not_external : List ℕ → List ℕ → Condition
symbol_not_external name home = limited (without_datum type.SimpleError (codes "Symbol " ++ name ++ codes " not external in " ++ home ++ codes "."))

-- two symbols of one name that would become accessible in one package (HyperSpec 11.1.1.2.5)
unfoldable pub name_conflict : Condition
name_conflict = without_datum type.SimpleError (codes "Name conflict.")

-- a division by zero (condition type DIVISION-BY-ZERO)
unfoldable pub division_by_zero : Condition
division_by_zero = without_datum type.DivisionByZero (codes "Division by zero.")

-- a result outside 64 bits (condition type ARITHMETIC-ERROR)
unfoldable pub integer_out_of_range : Condition
integer_out_of_range = without_datum type.ArithmeticError (codes "Integer out of range.")

-- a quotient that is no integer (condition type ARITHMETIC-ERROR)
unfoldable pub inexact_quotient : Condition
inexact_quotient = without_datum type.ArithmeticError (codes "Quotient is not an integer.")

-- a stack that would pass its limit (condition type STORAGE-CONDITION)
unfoldable pub stack_exhausted : Condition
stack_exhausted = without_datum type.StorageCondition (codes "Control stack exhausted.")

-- an inspected value that has no part of that number
unfoldable pub no_part : ℤ → Condition
no_part number = without_datum type.SimpleError (codes "No part: " ++ signed_decimal number ++ codes ".")

-- a control text with a directive that isn't known
unfoldable pub bad_directive : Condition
bad_directive = without_datum type.SimpleError (codes "Format: BadDirective.")

-- a control text with a directive that no argument is left for
unfoldable pub too_few_arguments : Condition
too_few_arguments = without_datum type.SimpleError (codes "Format: TooFewArguments.")
