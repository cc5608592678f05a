-- The parts of rows that several share: a value, a raise, and what an argument has to be.
use Rattle.std.specs.Prelude.{ℕ, ℤ, Bool, true, false, if◌then◌else◌, List, [], ◌∷◌, Option, Some, None, Result, Ok, Err, codes}
use Rattle.lisp_data.specs.declared.symbol.Symbol.{Symbol}
use Rattle.lisp_data.specs.declared.value.Value.{Value}
use Rattle.lisp_data.specs.declared.value.Value as value
use Rattle.lisp_data.specs.declared.value.Value.TheOpen.{Value-F}
use Rattle.lisp_data.specs.declared.value.Value.TheViews.{out-Value}
use Rattle.lisp_data.specs.declared.value.Condition.{Condition}
use Rattle.lisp_errors.specs.Causes.{name_conflict, package_not_found, symbol_not_external, wrong_kind}
use Rattle.lisp_errors.specs.Limits.{is_too_large, value_too_large}
use Rattle.lisp_errors.specs.declared.wanted.Wanted.{Wanted}
use Rattle.lisp_errors.specs.declared.wanted.Wanted.TheVariants as wanted
use Rattle.lisp_packages.specs.declared.fault.NameFault.{NameFault}
use Rattle.lisp_packages.specs.declared.fault.NameFault.TheVariants as fault
use Rattle.lisp_data.specs.Symbols.{cl}
use Rattle.term_model.specs.declared.found.Found.TheVariants.{Already}
use Rattle.step_model.specs.Act.{Act, Goes, Raises, Writes}
use Rattle.step_model.specs.CurrentPackage.{current_package}
use Rattle.step_model.specs.Now.{Now}
use Rattle.step_model.specs.Rules.{Writing, Output}

-- the full name of the thread's current package
abbrev pub current : Now → List ℕ
current n = current_package n.image n.context

abbrev pub gives_value : Value → Act
gives_value v = Goes [] (Already v)

-- every value but NIL is true (HyperSpec, glossary, "generalized boolean")
abbrev pub is_true_in : Value-F Value Condition → Bool
is_true_in (Value-F.List []) = false
is_true_in _ = true

abbrev pub is_true : Value → Bool
is_true v = is_true_in (out-Value v)

abbrev pub unless_too_large : Bool → Act → Act
unless_too_large large act = if large then Raises value_too_large else act

-- a value that was made, unless it is too large
abbrev pub gives_made : Value → Act
gives_made v = unless_too_large (is_too_large v) (gives_value v)

-- a text that was made, and what is done with it, unless it is too large
abbrev pub with_made : List ℕ → Act → Act
with_made text act = unless_too_large (is_too_large (value.Str text)) act

abbrev pub written_if : List ℕ → List Writing
written_if [] = []
written_if (c ∷ text) = Output (c ∷ text) false ∷ []

-- a text is written, nothing where it is empty, and then this value is given
abbrev pub prints : List ℕ → Value → Act
prints text v = with_made text (Writes (written_if text) (gives_value v))

-- the condition of a name that was refused. Want of memory is no answer of a definition
abbrev pub naming_fault : NameFault → Condition
naming_fault (fault.NoPackage text) = package_not_found text
naming_fault (fault.NotExternal name home) = symbol_not_external name home
naming_fault fault.Clash = name_conflict
naming_fault fault.NoMemory = name_conflict

-- ---- what an argument has to be

abbrev pub wrong : Now → Value → Wanted → Act
wrong n v kind = Raises (wrong_kind (current n) v kind)

abbrev pub or_wrong : {A : Type 0} → Option A → Act → (A → Act) → Act
or_wrong (Some a) refused act = act a
or_wrong None refused act = refused

abbrev pub symbol_in : Value-F Value Condition → Option Symbol
symbol_in (Value-F.Sym s) = Some s
symbol_in (Value-F.List []) = Some (cl (codes "NIL"))
symbol_in _ = None

-- the symbol that a value is, NIL among them
abbrev pub symbol_of : Value → Option Symbol
symbol_of v = symbol_in (out-Value v)

abbrev pub string_in : Value-F Value Condition → Option (List ℕ)
string_in (Value-F.Str text) = Some text
string_in _ = None

abbrev pub string_of : Value → Option (List ℕ)
string_of v = string_in (out-Value v)

abbrev pub list_in : Value-F Value Condition → Option (List Value)
list_in (Value-F.List vs) = Some vs
list_in _ = None

abbrev pub list_of : Value → Option (List Value)
list_of v = list_in (out-Value v)

abbrev pub integer_in : Value-F Value Condition → Option ℤ
integer_in (Value-F.Int z) = Some z
integer_in _ = None

abbrev pub integer_of : Value → Option ℤ
integer_of v = integer_in (out-Value v)

abbrev pub condition_in : Value-F Value Condition → Option Condition
condition_in (Value-F.Cond c) = Some c
condition_in _ = None

abbrev pub condition_of : Value → Option Condition
condition_of v = condition_in (out-Value v)

-- the name that a string or a symbol stands for
abbrev pub designated_in : Value-F Value Condition → Option (List ℕ)
designated_in (Value-F.Str text) = Some text
designated_in (Value-F.Sym s) = Some s.name
designated_in (Value-F.List []) = Some (codes "NIL")
designated_in _ = None

abbrev pub with_symbol : Now → Value → (Symbol → Act) → Act
with_symbol n v act = or_wrong (symbol_of v) (wrong n v wanted.Symbol) act

abbrev pub with_string : Now → Value → (List ℕ → Act) → Act
with_string n v act = or_wrong (string_of v) (wrong n v wanted.String) act

abbrev pub with_list : Now → Value → (List Value → Act) → Act
with_list n v act = or_wrong (list_of v) (wrong n v wanted.List) act

abbrev pub with_integer : Now → Value → (ℤ → Act) → Act
with_integer n v act = or_wrong (integer_of v) (wrong n v wanted.Integer) act

abbrev pub with_condition : Now → Value → (Condition → Act) → Act
with_condition n v act = or_wrong (condition_of v) (wrong n v wanted.Condition) act

abbrev pub with_designated : Now → Value → (List ℕ → Act) → Act
with_designated n v act = or_wrong (designated_in (out-Value v)) (wrong n v wanted.String) act

-- what a computation that may raise gives
abbrev pub or_raise : {A : Type 0} → Result A Condition → (A → Act) → Act
or_raise (Ok a) act = act a
or_raise (Err c) act = Raises c

abbrev pub or_refuse : {A : Type 0} → Result A NameFault → (A → Act) → Act
or_refuse (Ok a) act = act a
or_refuse (Err why) act = Raises (naming_fault why)
