-- The names of the one-step functions (HyperSpec, chapters 5 and 9 to 22), each a symbol of COMMON-LISP.
use Rattle.std.specs.Prelude.{ℕ, List, codes, Option, None, if◌then◌else◌}
use Rattle.std.specs.List.{find}
use Rattle.std.specs.Str.{bytes_eq}
use Rattle.lisp_data.specs.Symbols.{is_of_common_lisp}
use Rattle.lisp_data.specs.declared.symbol.Symbol.{Symbol}
use Rattle.lisp_builtins.specs.declared.op.TheConstants.{ALL}
use Rattle.lisp_builtins.specs.declared.op.Op.{Op}
use Rattle.lisp_builtins.specs.declared.op.Op.TheVariants as op

-- the name of a function's symbol
abbrev pub name_of : Op → List ℕ
name_of op.Plus = codes "+"
name_of op.Times = codes "*"
name_of op.Minus = codes "-"
name_of op.Divide = codes "/"
name_of op.Floor = codes "FLOOR"
name_of op.Mod = codes "MOD"
name_of op.Truncate = codes "TRUNCATE"
name_of op.Rem = codes "REM"
name_of op.Abs = codes "ABS"
name_of op.OnePlus = codes "1+"
name_of op.OneMinus = codes "1-"
name_of op.Min = codes "MIN"
name_of op.Max = codes "MAX"
name_of op.NumbersEqual = codes "="
name_of op.Less = codes "<"
name_of op.Greater = codes ">"
name_of op.AtMost = codes "<="
name_of op.AtLeast = codes ">="
name_of op.NumbersDiffer = codes "/="
name_of op.Zerop = codes "ZEROP"
name_of op.Plusp = codes "PLUSP"
name_of op.Minusp = codes "MINUSP"
name_of op.Evenp = codes "EVENP"
name_of op.Oddp = codes "ODDP"
name_of op.Null = codes "NULL"
name_of op.Not = codes "NOT"
name_of op.Eq = codes "EQ"
name_of op.Eql = codes "EQL"
name_of op.Equal = codes "EQUAL"
name_of op.Atom = codes "ATOM"
name_of op.Consp = codes "CONSP"
name_of op.Listp = codes "LISTP"
name_of op.Symbolp = codes "SYMBOLP"
name_of op.Stringp = codes "STRINGP"
name_of op.Integerp = codes "INTEGERP"
name_of op.Keywordp = codes "KEYWORDP"
name_of op.List = codes "LIST"
name_of op.Append = codes "APPEND"
name_of op.Cons = codes "CONS"
name_of op.Car = codes "CAR"
name_of op.Cdr = codes "CDR"
name_of op.First = codes "FIRST"
name_of op.Rest = codes "REST"
name_of op.Second = codes "SECOND"
name_of op.Third = codes "THIRD"
name_of op.Nth = codes "NTH"
name_of op.Nthcdr = codes "NTHCDR"
name_of op.Last = codes "LAST"
name_of op.Reverse = codes "REVERSE"
name_of op.Length = codes "LENGTH"
name_of op.Member = codes "MEMBER"
name_of op.Assoc = codes "ASSOC"
name_of op.Subseq = codes "SUBSEQ"
name_of op.StringEqual = codes "STRING="
name_of op.StringUpcase = codes "STRING-UPCASE"
name_of op.StringDowncase = codes "STRING-DOWNCASE"
name_of op.PrincToString = codes "PRINC-TO-STRING"
name_of op.Prin1ToString = codes "PRIN1-TO-STRING"
name_of op.SymbolName = codes "SYMBOL-NAME"
name_of op.String = codes "STRING"
name_of op.TypeOf = codes "TYPE-OF"
name_of op.Typep = codes "TYPEP"
name_of op.Identity = codes "IDENTITY"
name_of op.MakeCondition = codes "MAKE-CONDITION"

-- the function that a symbol names: the one of that name, where the symbol's home is COMMON-LISP
abbrev pub op_of : Symbol → Option Op
op_of symbol = if is_of_common_lisp symbol then find (λ o. bytes_eq (name_of o) symbol.name) ALL else None
