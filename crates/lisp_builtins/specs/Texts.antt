-- The functions of strings and of what stands for a name (HyperSpec 16.2, and 10.2 for SYMBOL-NAME).
use Rattle.std.specs.Prelude.{ℕ, List, [], ◌∷◌, codes, Option, Some, None, Result, Ok}
use Rattle.lisp_data.specs.Parts.{truth}
use Rattle.lisp_data.specs.declared.value.Value.{Value}
use Rattle.lisp_data.specs.declared.value.Value.TheVariants as value
use Rattle.lisp_data.specs.declared.value.Value.TheOpen.{Value-F}
use Rattle.lisp_data.specs.declared.value.Value.TheViews.{out-Value}
use Rattle.lisp_data.specs.declared.value.Condition.{Condition}
use Rattle.lisp_errors.specs.declared.wanted.Wanted.TheVariants as wanted
use Rattle.lisp_sequences.specs.Strings.{string_upcase, string_downcase, string_equal}
use Rattle.lisp_builtins.specs.Answers.{refused_number, refused_kind}
use Rattle.lisp_builtins.specs.declared.op.Op.{Op}
use Rattle.lisp_builtins.specs.declared.signature.Naming.{Naming}
use Rattle.lisp_builtins.specs.declared.signature.Naming.TheVariants as naming

-- the name of a symbol, NIL among them
abbrev pub symbol_name_at : Value-F Value Condition → Option (List ℕ)
symbol_name_at (Value-F.Sym s) = Some s.name
symbol_name_at (Value-F.List []) = Some (codes "NIL")
symbol_name_at _ = None

-- a string, or the name of a symbol, which stands for it
abbrev pub name_at : Value-F Value Condition → Option (List ℕ)
name_at (Value-F.Str text) = Some text
name_at other = symbol_name_at other

abbrev pub named_of : Naming → List ℕ → List ℕ
named_of naming.Itself text = text
named_of naming.Upcase text = string_upcase text
named_of naming.Downcase text = string_downcase text

abbrev pub of_name_at : Naming → List ℕ → Value → Option (List ℕ) → Result Value Condition
of_name_at f current v (Some text) = Ok (value.Str (named_of f text))
of_name_at f current v None = refused_kind current v wanted.String

-- `string`, `string-upcase` and `string-downcase`
abbrev pub of_one_name : Naming → Op → List ℕ → List Value → Result Value Condition
of_one_name f op current (v ∷ []) = of_name_at f current v (name_at (out-Value v))
of_one_name f op current _ = refused_number current op

abbrev pub of_names_at : List ℕ → Value → Value → Option (List ℕ) → Option (List ℕ) → Result Value Condition
of_names_at current a b (Some x) (Some y) = Ok (truth (string_equal x y))
of_names_at current a b (Some x) None = refused_kind current b wanted.String
of_names_at current a b None other = refused_kind current a wanted.String

-- `string=`
abbrev pub of_two_names : Op → List ℕ → List Value → Result Value Condition
of_two_names op current (a ∷ b ∷ []) = of_names_at current a b (name_at (out-Value a)) (name_at (out-Value b))
of_two_names op current _ = refused_number current op

abbrev pub of_symbol_at : List ℕ → Value → Option (List ℕ) → Result Value Condition
of_symbol_at current v (Some text) = Ok (value.Str text)
of_symbol_at current v None = refused_kind current v wanted.Symbol

-- `symbol-name`
abbrev pub of_one_symbol : Op → List ℕ → List Value → Result Value Condition
of_one_symbol op current (v ∷ []) = of_symbol_at current v (symbol_name_at (out-Value v))
of_one_symbol op current _ = refused_number current op
