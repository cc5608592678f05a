-- The operators: the symbols of COMMON-LISP that head a form of a shape of its own.
use Rattle.std.specs.Prelude.{ℕ, List, codes, Option, None, if◌then◌else◌}
use Rattle.std.specs.List.{find}
use Rattle.std.specs.Str.{bytes_eq}
use Rattle.lisp_data.specs.declared.symbol.Symbol.{Symbol}
use Rattle.lisp_data.specs.Symbols.{is_of_common_lisp}
use Rattle.syntax_trees.specs.declared.row.Bare.{Bare}
use Rattle.syntax_trees.specs.declared.row.Bare.TheVariants as bare
use Rattle.syntax_trees.specs.declared.row.Holder.{Holder}
use Rattle.syntax_trees.specs.declared.row.Holder.TheVariants as holder
use Rattle.lisp_syntax.specs.declared.operator.Operator.{Operator}
use Rattle.lisp_syntax.specs.declared.operator.Operator.TheVariants as op
use Rattle.lisp_syntax.specs.declared.operator.TheConstants.{OPERATORS}

abbrev pub bare_name : Bare → List ℕ
bare_name bare.If = codes "IF"
bare_name bare.When = codes "WHEN"
bare_name bare.Unless = codes "UNLESS"
bare_name bare.Cond = codes "COND"
bare_name bare.And = codes "AND"
bare_name bare.Or = codes "OR"
bare_name bare.Progn = codes "PROGN"
bare_name bare.Return = codes "RETURN"
bare_name bare.Loop = codes "LOOP"
bare_name bare.Catch = codes "CATCH"
bare_name bare.Throw = codes "THROW"
bare_name bare.UnwindProtect = codes "UNWIND-PROTECT"
bare_name bare.HandlerCase = codes "HANDLER-CASE"
bare_name bare.IgnoreErrors = codes "IGNORE-ERRORS"
bare_name bare.RestartCase = codes "RESTART-CASE"

abbrev pub holder_name : Holder → List ℕ
holder_name holder.DoTimes = codes "DOTIMES"
holder_name holder.DoList = codes "DOLIST"
holder_name holder.Defvar = codes "DEFVAR"
holder_name holder.Defparameter = codes "DEFPARAMETER"

-- the name of the operator's symbol
abbrev pub name_of : Operator → List ℕ
name_of op.Quote = codes "QUOTE"
name_of op.Function = codes "FUNCTION"
name_of (op.Bare b) = bare_name b
name_of op.Block = codes "BLOCK"
name_of op.ReturnFrom = codes "RETURN-FROM"
name_of (op.Held h) = holder_name h
name_of op.Let = codes "LET"
name_of op.LetStar = codes "LET*"
name_of op.Setq = codes "SETQ"
name_of op.Defun = codes "DEFUN"
name_of op.HandlerBind = codes "HANDLER-BIND"
name_of op.WithSimpleRestart = codes "WITH-SIMPLE-RESTART"
name_of op.InPackage = codes "IN-PACKAGE"
name_of op.Defpackage = codes "DEFPACKAGE"

-- the operator whose symbol has the name
unfoldable pub operator_named : List ℕ → Option Operator
operator_named name = find (λ o. bytes_eq (name_of o) name) OPERATORS

-- the operator that the symbol is, None where the symbol is none
unfoldable pub operator_of : Symbol → Option Operator
operator_of symbol = if is_of_common_lisp symbol then operator_named symbol.name else None
