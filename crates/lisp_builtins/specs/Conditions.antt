-- MAKE-CONDITION (HyperSpec 9.2), with the keywords of simple conditions.
use Rattle.std.specs.Prelude.{◌&&◌, ◌++◌, ℕ, Bool, false, List, [], ◌∷◌, codes, Option, Some, None, Result, Ok, Err, if◌then◌else◌}
use Rattle.std.specs.Str.{bytes_eq}
use Rattle.lisp_data.specs.Symbols.{is_keyword}
use Rattle.lisp_data.specs.declared.type_id.TypeId.{TypeId}
use Rattle.lisp_data.specs.declared.type_id.TypeId.TheVariants as type
use Rattle.lisp_data.specs.declared.value.Value.{Value}
use Rattle.lisp_data.specs.declared.value.Value.TheVariants as value
use Rattle.lisp_data.specs.declared.value.Value.TheOpen.{Value-F}
use Rattle.lisp_data.specs.declared.value.Value.TheViews.{out-Value}
use Rattle.lisp_data.specs.declared.value.Condition.{Condition}
use Rattle.lisp_errors.specs.Texts.{without_datum}
use Rattle.lisp_errors.specs.declared.wanted.Wanted.TheVariants as wanted
use Rattle.lisp_format.specs.Causes.{cause_of}
use Rattle.lisp_format.specs.Formatted.{formatted}
use Rattle.lisp_format.specs.declared.fault.FormatFault.{FormatFault}
use Rattle.lisp_data.specs.TypeNames.{name_of as type_name}
use Rattle.lisp_types.specs.Kinds.{is_kind}
use Rattle.lisp_builtins.specs.Answers.{refused_number, refused_kind}
use Rattle.lisp_builtins.specs.Values.{type_in}
use Rattle.lisp_builtins.specs.declared.op.Op.{Op}

abbrev pub only_condition : Option TypeId → Option TypeId
only_condition (Some t) = if is_kind t type.Condition then Some t else None
only_condition None = None

-- the type of conditions that a value names
abbrev pub condition_type_in : Value → Option TypeId
condition_type_in v = only_condition (type_in v)

abbrev pub is_key_at : List ℕ → Value-F Value Condition → Bool
is_key_at name (Value-F.Sym s) = is_keyword s && bytes_eq s.name name
is_key_at name _ = false

-- whether a value is the keyword of that name
abbrev pub is_key : List ℕ → Value → Bool
is_key name v = is_key_at name (out-Value v)

-- a condition of that type with that message
abbrev pub condition_of : TypeId → List ℕ → Value
condition_of t message = value.Cond (without_datum t message)

-- the message of a condition that is made without one
abbrev pub plain_message : TypeId → List ℕ
plain_message t = codes "Condition of type " ++ type_name t ++ codes "."

abbrev pub of_plain : List ℕ → Value → Option TypeId → Result Value Condition
of_plain current kind (Some t) = Ok (condition_of t (plain_message t))
of_plain current kind None = refused_kind current kind wanted.Condition

-- the condition whose message is a control text's, or what a fault of that text raises
abbrev pub of_message : TypeId → Result (List ℕ) FormatFault → Result Value Condition
of_message t (Ok message) = Ok (condition_of t message)
of_message t (Err fault) = Err (cause_of fault)

abbrev pub of_control : List ℕ → Value → Value → Value → Option TypeId → Value-F Value Condition → Value-F Value Condition → Result Value Condition
of_control current kind control arguments (Some t) (Value-F.Str text) (Value-F.List xs) = of_message t (formatted current text xs)
of_control current kind control arguments (Some t) (Value-F.Str text) _ = refused_kind current arguments wanted.List
of_control current kind control arguments (Some t) _ _ = refused_kind current control wanted.String
of_control current kind control arguments None _ _ = refused_kind current kind wanted.Condition

-- `make-condition`: a type alone, or a type, a control text and its arguments, each behind its keyword
abbrev pub of_new_condition : Op → List ℕ → List Value → Result Value Condition
of_new_condition op current (kind ∷ []) = of_plain current kind (condition_type_in kind)
of_new_condition op current (kind ∷ first ∷ control ∷ second ∷ arguments ∷ []) =
    if is_key (codes "FORMAT-CONTROL") first && is_key (codes "FORMAT-ARGUMENTS") second
    then of_control current kind control arguments (condition_type_in kind) (out-Value control) (out-Value arguments)
    else refused_number current op
of_new_condition op current _ = refused_number current op
