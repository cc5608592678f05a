-- The parts of forms and of values, by the kind that each is of.
use Rattle.std.specs.Prelude.{ℕ, ℤ, Bool, true, false, not, List, [], ◌∷◌, Option, Some, None, codes}
use Rattle.lisp_data.specs.declared.sexp.Sexp.{Sexp}
use Rattle.lisp_data.specs.declared.sexp.Sexp.TheOpen.{Sexp-F}
use Rattle.lisp_data.specs.declared.sexp.Sexp.TheViews.{out-Sexp}
use Rattle.lisp_data.specs.declared.symbol.Symbol.{Symbol}
use Rattle.lisp_data.specs.declared.value.Condition.{Condition}
use Rattle.lisp_data.specs.declared.value.Value.{Value}
use Rattle.lisp_data.specs.declared.value.Value as value
use Rattle.lisp_data.specs.declared.value.Value.TheOpen.{Value-F}
use Rattle.lisp_data.specs.declared.value.Value.TheViews.{out-Value}
use Rattle.lisp_data.specs.Symbols.{cl}

-- ---- forms

abbrev pub items_in : Sexp-F Sexp → Option (List Sexp)
items_in (Sexp-F.List items) = Some items
items_in _ = None

-- the items of a list
abbrev pub form_items : Sexp → Option (List Sexp)
form_items x = items_in (out-Sexp x)

abbrev pub text_in : Sexp-F Sexp → Option (List ℕ)
text_in (Sexp-F.Str text) = Some text
text_in _ = None

-- the text of a string
abbrev pub form_text : Sexp → Option (List ℕ)
form_text x = text_in (out-Sexp x)

abbrev pub token_in : Sexp-F Sexp → Option (List ℕ)
token_in (Sexp-F.Sym token) = Some token
token_in _ = None

-- the token of a symbol
abbrev pub form_token : Sexp → Option (List ℕ)
form_token x = token_in (out-Sexp x)

-- ---- values

abbrev pub value_items_in : Value-F Value Condition → Option (List Value)
value_items_in (Value-F.List items) = Some items
value_items_in _ = None

-- the items of a list
abbrev pub value_items : Value → Option (List Value)
value_items v = value_items_in (out-Value v)

abbrev pub value_text_in : Value-F Value Condition → Option (List ℕ)
value_text_in (Value-F.Str text) = Some text
value_text_in _ = None

-- the text of a string
abbrev pub value_text : Value → Option (List ℕ)
value_text v = value_text_in (out-Value v)

abbrev pub value_symbol_in : Value-F Value Condition → Option Symbol
value_symbol_in (Value-F.Sym symbol) = Some symbol
value_symbol_in _ = None

-- the symbol that a value is; NIL is a list here
abbrev pub value_symbol : Value → Option Symbol
value_symbol v = value_symbol_in (out-Value v)

-- the empty list, which is NIL
abbrev pub nil : Value
nil = value.List []

-- the truth of the language (HyperSpec, constant variable T)
abbrev pub yes : Value
yes = value.Sym (cl (codes "T"))

abbrev pub truth : Bool → Value
truth true = yes
truth false = nil

abbrev pub is_nil_in : Value-F Value Condition → Bool
is_nil_in (Value-F.List []) = true
is_nil_in _ = false

-- the value is NIL
abbrev pub is_nil_value : Value → Bool
is_nil_value v = is_nil_in (out-Value v)
