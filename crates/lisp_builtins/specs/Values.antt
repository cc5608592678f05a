-- The functions of values of any kind: tests, equality, printing and types (HyperSpec 5.3, 14.2, 10.2, 16.2, 22.4 and 4.4).
use Rattle.std.specs.Prelude.{ℕ, Bool, true, false, not, List, [], ◌∷◌, Option, Some, None, Result, Ok, if◌then◌else◌}
use Rattle.lisp_data.specs.declared.type_id.TypeId.{TypeId}
use Rattle.lisp_data.specs.Symbols.{is_keyword as is_keyword_symbol, is_of_common_lisp}
use Rattle.lisp_data.specs.Parts.{is_nil_value, truth}
use Rattle.lisp_data.specs.declared.value.Value.{Value}
use Rattle.lisp_data.specs.declared.value.Value.TheVariants as value
use Rattle.lisp_data.specs.declared.value.Value.TheOpen.{Value-F}
use Rattle.lisp_data.specs.declared.value.Value.TheViews.{out-Value}
use Rattle.lisp_data.specs.declared.value.Condition.{Condition}
use Rattle.lisp_errors.specs.declared.wanted.Wanted.TheVariants as wanted
use Rattle.lisp_data.specs.Same.{same_value}
use Rattle.lisp_types.specs.Types.{type_of}
use Rattle.lisp_data.specs.TypeNames.{name_of as type_name}
use Rattle.sexp_printer.specs.UserText.{user_text}
use Rattle.lisp_types.specs.Kinds.{is_kind, type_by_name}
use Rattle.lisp_builtins.specs.Answers.{standard_symbol, refused_number, refused_kind}
use Rattle.lisp_builtins.specs.Numbers.{is_integer}
use Rattle.lisp_builtins.specs.declared.op.Op.{Op}
use Rattle.lisp_builtins.specs.declared.signature.Any.{Any}
use Rattle.lisp_builtins.specs.declared.signature.Any.TheVariants as any
use Rattle.lisp_builtins.specs.declared.signature.Both.{Both}
use Rattle.lisp_builtins.specs.declared.signature.Both.TheVariants as both

abbrev pub is_cons_at : Value-F Value Condition → Bool
is_cons_at (Value-F.List (x ∷ xs)) = true
is_cons_at _ = false

-- a list with items
abbrev pub is_cons : Value → Bool
is_cons v = is_cons_at (out-Value v)

abbrev pub is_list_at : Value-F Value Condition → Bool
is_list_at (Value-F.List xs) = true
is_list_at _ = false

-- a list, NIL among them
abbrev pub is_list : Value → Bool
is_list v = is_list_at (out-Value v)

abbrev pub is_symbol_at : Value-F Value Condition → Bool
is_symbol_at (Value-F.Sym s) = true
is_symbol_at (Value-F.List []) = true
is_symbol_at _ = false

-- a symbol, NIL among them
abbrev pub is_symbol : Value → Bool
is_symbol v = is_symbol_at (out-Value v)

abbrev pub is_string_at : Value-F Value Condition → Bool
is_string_at (Value-F.Str text) = true
is_string_at _ = false

abbrev pub is_string : Value → Bool
is_string v = is_string_at (out-Value v)

abbrev pub is_keyword_at : Value-F Value Condition → Bool
is_keyword_at (Value-F.Sym s) = is_keyword_symbol s
is_keyword_at _ = false

-- a symbol whose home is KEYWORD
abbrev pub is_keyword : Value → Bool
is_keyword v = is_keyword_at (out-Value v)

abbrev pub any_of : Any → List ℕ → Value → Result Value Condition
any_of any.IsNil current v = Ok (truth (is_nil_value v))
any_of any.IsAtom current v = Ok (truth (not (is_cons v)))
any_of any.IsCons current v = Ok (truth (is_cons v))
any_of any.IsList current v = Ok (truth (is_list v))
any_of any.IsSymbol current v = Ok (truth (is_symbol v))
any_of any.IsString current v = Ok (truth (is_string v))
any_of any.IsInteger current v = Ok (truth (is_integer v))
any_of any.IsKeyword current v = Ok (truth (is_keyword v))
any_of any.Princ current v = Ok (value.Str (user_text current false v))
any_of any.Prin1 current v = Ok (value.Str (user_text current true v))
any_of any.TypeOf current v = Ok (standard_symbol (type_name (type_of v)))
any_of any.Identity current v = Ok v

-- the tests of one value, `princ-to-string`, `prin1-to-string`, `type-of` and `identity`
abbrev pub of_one_value : Any → Op → List ℕ → List Value → Result Value Condition
of_one_value f op current (v ∷ []) = any_of f current v
of_one_value f op current _ = refused_number current op

abbrev pub type_in_at : Value-F Value Condition → Option TypeId
type_in_at (Value-F.Sym s) = if is_of_common_lisp s then type_by_name s.name else None
type_in_at _ = None

-- the type that a value names: a symbol of COMMON-LISP with a type's name does
abbrev pub type_in : Value → Option TypeId
type_in v = type_in_at (out-Value v)

abbrev pub of_type : List ℕ → Value → Value → Option TypeId → Result Value Condition
of_type current v kind (Some t) = Ok (truth (is_kind (type_of v) t))
of_type current v kind None = refused_kind current kind wanted.Type

abbrev pub both_of : Both → List ℕ → Value → Value → Result Value Condition
both_of both.AreSame current a b = Ok (truth (same_value a b))
both_of both.IsOfType current a b = of_type current a b (type_in b)

-- `eq`, `eql`, `equal` and `typep`
abbrev pub of_two_values : Both → Op → List ℕ → List Value → Result Value Condition
of_two_values f op current (a ∷ b ∷ []) = both_of f current a b
of_two_values f op current _ = refused_number current op
