-- The parts of a form that are no forms themselves: read from values, None where a value is no such part, and back. NIL is the empty
-- list, and counts as a symbol.
use Rattle.std.specs.Prelude.{◌≡◌, ℕ, Bool, true, false, not, ◌&&◌, ◌++◌, if◌then◌else◌, map, List, [], ◌∷◌, codes, Option, Some, None, option_map, option_and_then}
use Rattle.std.specs.Str.{bytes_eq}
use Rattle.lisp_data.specs.declared.symbol.Symbol.{Symbol}
use Rattle.lisp_data.specs.declared.type_id.TypeId.{TypeId}
use Rattle.lisp_data.specs.declared.type_id.TypeId.TheVariants as type
use Rattle.lisp_data.specs.declared.value.Value.{Value}
use Rattle.lisp_data.specs.declared.value.Value as value
use Rattle.lisp_data.specs.declared.value.Value.TheOpen.{Value-F}
use Rattle.lisp_data.specs.declared.value.Value.TheViews.{out-Value}
use Rattle.lisp_data.specs.declared.value.Condition.{Condition}
use Rattle.lisp_data.specs.TypeNames.{name_of as type_name}
use Rattle.lisp_types.specs.Kinds.{is_kind, type_by_name}
use Rattle.lisp_data.specs.Parts.{value_items, value_text}
use Rattle.lisp_data.specs.Symbols.{cl, keyword, is_keyword, is_nil, is_of_common_lisp, names, value_of_symbol}
use Rattle.lisp_syntax.specs.Symbols.{is_readable, is_variable}
use Rattle.syntax_trees.specs.declared.row.Parameters.{Parameters}
use Rattle.syntax_trees.specs.declared.row.Designator.{Designator}
use Rattle.syntax_trees.specs.declared.row.Designator.TheVariants as designator

-- ---- lists of parts

-- the result on both, where both are there
abbrev pub both : {A B C : Type 0} → (A → B → C) → Option A → Option B → Option C
both f (Some a) (Some b) = Some (f a b)
both f (Some a) None = None
both f None b = None

-- what each item is read as, None where one isn't read
abbrev pub each_of : {A B : Type 0} → (A → Option B) → List A → Option (List B)
each_of read [] = Some []
each_of read (x ∷ xs) = both ◌∷◌ (read x) (each_of read xs)

-- it holds of each item
abbrev pub Each : {A : Type 0} → (A → Type 0) → List A → Type 0
Each P [] = Unit {0}
Each P (x ∷ xs) = P x × Each P xs

-- it holds where there is an item
abbrev pub Given : {A : Type 0} → (A → Type 0) → Option A → Type 0
Given P None = Unit {0}
Given P (Some x) = P x

-- the item, if there is one
abbrev pub optional : {A : Type 0} → Option A → List A
optional None = []
optional (Some x) = x ∷ []

-- ---- symbols

abbrev pub symbol_in : Value-F Value Condition → Option Symbol
symbol_in (Value-F.Sym s) = if is_nil s then None else Some s
symbol_in (Value-F.List []) = Some (cl (codes "NIL"))
symbol_in _ = None

-- the symbol that a value is, NIL among them
unfoldable pub symbol_of : Value → Option Symbol
symbol_of v = symbol_in (out-Value v)

abbrev pub symbol_is_in : Value-F Value Condition → Bool
symbol_is_in (Value-F.Sym s) = true
symbol_is_in (Value-F.List []) = true
symbol_is_in _ = false

-- it is a symbol, NIL among them
unfoldable pub is_symbol : Value → Bool
is_symbol v = symbol_is_in (out-Value v)

abbrev pub tested_in : (Symbol → Bool) → Value-F Value Condition → Option Symbol
tested_in test (Value-F.Sym s) = if test s then Some s else None
tested_in test _ = None

-- the symbol that a value is, where it passes the test
abbrev pub tested : (Symbol → Bool) → Value → Option Symbol
tested test v = tested_in test (out-Value v)

-- what a form may bind or declare
unfoldable pub variable_of : Value → Option Symbol
variable_of v = tested is_variable v

-- what a form may assign, and `let` may bind
unfoldable pub readable_of : Value → Option Symbol
readable_of v = tested is_readable v

-- the name of a restart, which isn't NIL
unfoldable pub restart_name_of : Value → Option Symbol
restart_name_of v = tested (λ s. not (is_nil s)) v

abbrev pub is_key_in : List ℕ → Value-F Value Condition → Bool
is_key_in key (Value-F.Sym s) = is_keyword s && bytes_eq s.name key
is_key_in key _ = false

-- it is the keyword with this name
unfoldable pub is_key : List ℕ → Value → Bool
is_key key v = is_key_in key (out-Value v)

-- ---- types of conditions (HyperSpec 9.1.1)

abbrev pub is_condition_type : TypeId → Bool
is_condition_type t = is_kind t type.Condition

-- the type of that name, where it is one of conditions
abbrev pub condition_type_named : List ℕ → Option TypeId
condition_type_named name = option_and_then (λ t. if is_condition_type t then Some t else None) (type_by_name name)

abbrev pub condition_type_in : Value-F Value Condition → Option TypeId
condition_type_in (Value-F.Sym s) = if is_of_common_lisp s then condition_type_named s.name else None
condition_type_in _ = None

-- the condition type that a symbol of COMMON-LISP names
unfoldable pub condition_type_of : Value → Option TypeId
condition_type_of v = condition_type_in (out-Value v)

abbrev pub type_form : TypeId → Value
type_form t = value.Sym (cl (type_name t))

-- ---- lists of variables

abbrev pub at_most_one_in : List Value → Option (Option Symbol)
at_most_one_in [] = Some None
at_most_one_in (v ∷ []) = option_map Some (variable_of v)
at_most_one_in _ = None

-- `([V])`
unfoldable pub at_most_one_of : Value → Option (Option Symbol)
at_most_one_of v = option_and_then at_most_one_in (value_items v)

abbrev pub at_most_one_form : Option Symbol → Value
at_most_one_form v = value.List (map value.Sym (optional v))

-- `(V..)`
unfoldable pub variables_of : Value → Option (List Symbol)
variables_of v = option_and_then (each_of variable_of) (value_items v)

abbrev pub variables_form : List Symbol → Value
variables_form vs = value.List (map value.Sym vs)

-- ---- the report of a restart

abbrev pub reported : List Value → List Value → Option (List ℕ) → Option (List ℕ) × List Value
reported forms body (Some text) = (Some text, body)
reported forms body None = (None, forms)

abbrev pub report_in : List Value → Option (List ℕ) × List Value
report_in (key ∷ text ∷ body) = reported (key ∷ text ∷ body) body (if is_key (codes "REPORT") key then value_text text else None)
report_in body = (None, body)

-- `[:report "TEXT"] body`: without `:report` and a string the forms are the body
unfoldable pub report_of : List Value → Option (List ℕ) × List Value
report_of forms = report_in forms

abbrev pub report_forms : Option (List ℕ) → List Value
report_forms None = []
report_forms (Some text) = value.Sym (keyword (codes "REPORT")) ∷ value.Str text ∷ []

-- a body behind no report doesn't begin with one
abbrev pub IsReported : Option (List ℕ) → List Value → Type 0
IsReported (Some text) body = Unit {0}
IsReported None body = (report_of body).0 ≡ None

-- ---- parameters of functions (HyperSpec 3.4.1)

abbrev pub is_parameter : Symbol → Bool
is_parameter s = not (names s (codes "&OPTIONAL")) && not (names s (codes "&REST"))

abbrev pub parameter_in : Option Symbol → Option Symbol
parameter_in None = None
parameter_in (Some s) = if is_parameter s then Some s else None

-- a parameter: any symbol but the two markers
unfoldable pub parameter_of : Value → Option Symbol
parameter_of v = parameter_in (symbol_of v)

abbrev pub marks_in : List ℕ → Value-F Value Condition → Bool
marks_in marker (Value-F.Sym s) = names s marker
marks_in marker _ = false

-- it is this marker
unfoldable pub marks : List ℕ → Value → Bool
marks marker v = marks_in marker (out-Value v)

abbrev pub led_by : Value → Option Symbol → List Value → List Symbol × List Value → List Symbol × List Value
led_by x (Some s) xs more = (s ∷ more.0, more.1)
led_by x None xs more = ([], x ∷ xs)

-- the parameters before the first value that is none, and what stands from there on
abbrev pub leading : List Value → List Symbol × List Value
leading [] = ([], [])
leading (x ∷ xs) = led_by x (parameter_of x) xs (leading xs)

abbrev pub listed_parameters : List Symbol → Option (List Symbol) → Option Symbol → Parameters
listed_parameters required optionals r = record { required = required; optional = optionals; rest = r }

-- the parameters that end so: nothing, or `&rest` and one symbol
abbrev pub rest_of : List Value → Option (Option Symbol)
rest_of [] = Some None
rest_of (m ∷ p ∷ []) = if marks (codes "&REST") m then option_map Some (parameter_of p) else None
rest_of _ = None

-- what stands behind `&optional`, where it is written, and what follows
abbrev pub optionals_of : List Value → Option (List Symbol) × List Value
optionals_of [] = (None, [])
optionals_of (m ∷ more) = if marks (codes "&OPTIONAL") m then (Some (leading more).0, (leading more).1) else (None, m ∷ more)

-- symbols, then `&optional` and symbols, then `&rest` and one symbol
unfoldable pub parameters_of : List Value → Option Parameters
parameters_of items = option_map (listed_parameters (leading items).0 (optionals_of (leading items).1).0) (rest_of (optionals_of (leading items).1).1)

-- a marker of a parameter list and the symbols behind it, nothing where the marker isn't written
abbrev pub marked : List ℕ → Option (List Symbol) → List Value
marked marker None = []
marked marker (Some symbols) = value.Sym (cl marker) ∷ map value_of_symbol symbols

abbrev pub rest_marked : Option Symbol → List Value
rest_marked None = []
rest_marked (Some symbol) = value.Sym (cl (codes "&REST")) ∷ value_of_symbol symbol ∷ []

abbrev pub parameter_forms : Parameters → List Value
parameter_forms p = map value_of_symbol p.required ++ marked (codes "&OPTIONAL") p.optional ++ rest_marked p.rest

abbrev pub IsParameter : Symbol → Type 0
IsParameter s = is_parameter s ≡ true

-- no parameter is a marker
abbrev pub AreParameters : Parameters → Type 0
AreParameters p = Each IsParameter p.required × Given (Each IsParameter) p.optional × Given IsParameter p.rest

-- ---- packages

abbrev pub designator_at : Value → Option (List ℕ) → Option Designator
designator_at v (Some text) = Some (designator.Str text)
designator_at v None = option_map designator.Sym (symbol_of v)

-- a string or a symbol (HyperSpec 1.4.1.5)
unfoldable pub designator_of : Value → Option Designator
designator_of v = designator_at v (value_text v)

abbrev pub designator_form : Designator → Value
designator_form (designator.Str text) = value.Str text
designator_form (designator.Sym symbol) = value_of_symbol symbol

abbrev pub option_in : List ℕ → List Value → Option (List Designator)
option_in key [] = None
option_in key (k ∷ items) = if is_key key k then each_of designator_of items else None

-- `(:KEY P..)`
unfoldable pub option_of : List ℕ → Value → Option (List Designator)
option_of key v = option_and_then (option_in key) (value_items v)

abbrev pub only_option : Option (List Designator) → Option (List Designator) → Option (Option (List Designator) × Option (List Designator))
only_option (Some uses) exports = Some (Some uses, None)
only_option None (Some exports) = Some (None, Some exports)
only_option None None = None

-- `[(:use P..)] [(:export P..)]`
unfoldable pub options_of : List Value → Option (Option (List Designator) × Option (List Designator))
options_of [] = Some (None, None)
options_of (o ∷ []) = only_option (option_of (codes "USE") o) (option_of (codes "EXPORT") o)
options_of (u ∷ e ∷ []) = both (λ uses exports. (Some uses, Some exports)) (option_of (codes "USE") u) (option_of (codes "EXPORT") e)
options_of _ = None

-- `(:KEY P..)`, nothing where the option isn't written
abbrev pub option_forms : List ℕ → Option (List Designator) → List Value
option_forms key None = []
option_forms key (Some names) = value.List (value.Sym (keyword key) ∷ map designator_form names) ∷ []

abbrev pub options_forms : Option (List Designator) × Option (List Designator) → List Value
options_forms o = option_forms (codes "USE") o.0 ++ option_forms (codes "EXPORT") o.1
