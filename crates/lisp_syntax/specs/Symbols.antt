-- Symbols that may be variables (HyperSpec 3.1.2.1.1 and 11.1.2).
use Rattle.std.specs.Prelude.{Bool, not, ◌&&◌, ◌||◌, codes}
use Rattle.lisp_data.specs.declared.symbol.Symbol.{Symbol}
use Rattle.lisp_data.specs.Symbols.{is_keyword, is_of_common_lisp, names}

-- what a form may bind or declare: no keyword, and no symbol of COMMON-LISP
abbrev pub is_variable : Symbol → Bool
is_variable s = not (is_keyword s) && not (is_of_common_lisp s)

-- what a form may read and assign, and `let` may bind: a variable, or `*PACKAGE*`
abbrev pub is_readable : Symbol → Bool
is_readable s = is_variable s || names s (codes "*PACKAGE*")
