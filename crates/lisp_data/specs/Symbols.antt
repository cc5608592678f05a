-- Symbols by their homes: keywords and those of COMMON-LISP (HyperSpec 11.1.2), and symbols as values.
use Rattle.std.specs.Prelude.{ℕ, Bool, ◌&&◌, if◌then◌else◌, List, [], codes}
use Rattle.std.specs.Str.{bytes_eq}
use Rattle.lisp_data.specs.declared.symbol.Symbol.{Symbol}
use Rattle.lisp_data.specs.declared.value.Value.{Value}
use Rattle.lisp_data.specs.declared.value.Value as value

-- the home of the symbols that the language itself gives a meaning
abbrev pub common_lisp : List ℕ
common_lisp = codes "COMMON-LISP"

-- the home of the keywords
abbrev pub keyword_package : List ℕ
keyword_package = codes "KEYWORD"

-- the symbol of COMMON-LISP with this name
abbrev pub cl : List ℕ → Symbol
cl name = record { home = common_lisp; name = name }

-- the keyword with this name
abbrev pub keyword : List ℕ → Symbol
keyword name = record { home = keyword_package; name = name }

abbrev pub is_of_common_lisp : Symbol → Bool
is_of_common_lisp s = bytes_eq s.home common_lisp

abbrev pub is_keyword : Symbol → Bool
is_keyword s = bytes_eq s.home keyword_package

-- it is the symbol of COMMON-LISP with this name
abbrev pub names : Symbol → List ℕ → Bool
names s name = is_of_common_lisp s && bytes_eq s.name name

-- NIL, whose value is the empty list
abbrev pub is_nil : Symbol → Bool
is_nil s = names s (codes "NIL")

-- the symbol as a value
abbrev pub value_of_symbol : Symbol → Value
value_of_symbol s = if is_nil s then value.List [] else value.Sym s
