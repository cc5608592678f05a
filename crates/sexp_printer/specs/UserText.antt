-- The text of a value, as it is shown to the user. Chapter 22 of the HyperSpec (22.1.3.3 symbols and their packages, 22.1.3.13
-- other objects; functions PRIN1, with escape, and PRINC, without).
use Rattle.std.specs.Prelude.{◌||◌, ℕ, Bool, if◌then◌else◌, List, ◌++◌, codes}
use Rattle.std.specs.Fmt.{signed_decimal}
use Rattle.std.specs.Str.{bytes_eq}
use Rattle.lisp_data.specs.declared.symbol.Symbol.{Symbol}
use Rattle.lisp_data.specs.declared.type_id.TypeId.{TypeId}
use Rattle.lisp_data.specs.declared.value.Value.{Value}
use Rattle.lisp_data.specs.declared.value.Value.TheOpen.{Condition-F, Value-F}
use Rattle.lisp_data.specs.declared.value.Value.TheFolds.{fold-Value}
use Rattle.lisp_data.specs.Symbols.{common_lisp, keyword_package}
use Rattle.lisp_data.specs.TypeNames.{name_of}
use Rattle.sexp_printer.specs.Printed.{quoted, in_parentheses}

-- whether a symbol prints by its name alone: one whose home is COMMON-LISP or the current package
abbrev pub is_bare : List ℕ → List ℕ → Bool
is_bare home current = bytes_eq home common_lisp || bytes_eq home current

-- a keyword: its name after a colon; a symbol that prints by its name alone; any other: its home, two colons and its name
abbrev pub symbol_text : List ℕ → Symbol → List ℕ
symbol_text current symbol =
    if bytes_eq symbol.home keyword_package then codes ":" ++ symbol.name
    else if is_bare symbol.home current then symbol.name
    else symbol.home ++ codes "::" ++ symbol.name

-- a string: with escape in double quotes, without escape its characters
abbrev pub string_text : Bool → List ℕ → List ℕ
string_text escape text = if escape then quoted text else text

-- a condition: with escape its type and its message in double quotes, without escape its message
abbrev pub condition_text : Bool → TypeId → List ℕ → List ℕ
condition_text escape kind message = if escape then codes "#<" ++ name_of kind ++ codes " " ++ quoted message ++ codes ">" else message

-- one level of a value, with the texts of what it holds in their places
abbrev pub user_step : List ℕ → Bool → Value-F (List ℕ) (List ℕ) → List ℕ
user_step current escape (Value-F.Int n) = signed_decimal n
user_step current escape (Value-F.Str text) = string_text escape text
user_step current escape (Value-F.Sym symbol) = symbol_text current symbol
user_step current escape (Value-F.List items) = in_parentheses (codes "NIL") items
user_step current escape (Value-F.Cond condition) = condition

-- a condition, which shows its type and message alone
abbrev pub condition_step : Bool → Condition-F (List ℕ) (List ℕ) → List ℕ
condition_step escape condition = condition_text escape condition.kind condition.message

-- the user text of a value: the full name of the current package, and whether strings and conditions are escaped
abbrev pub user_text : List ℕ → Bool → Value → List ℕ
user_text current escape = fold-Value (List ℕ) (List ℕ) (user_step current escape) (condition_step escape)
