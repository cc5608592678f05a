-- The names of types.
use Rattle.std.specs.Prelude.{ℕ, List, codes}
use Rattle.lisp_data.specs.declared.type_id.TypeId.{TypeId}
use Rattle.lisp_data.specs.declared.type_id.TypeId.TheVariants as type

-- the name of a type's symbol (HyperSpec 4.2.3, figure 4-2)
abbrev pub name_of : TypeId → List ℕ
name_of type.T = codes "T"
name_of type.Condition = codes "CONDITION"
name_of type.SeriousCondition = codes "SERIOUS-CONDITION"
name_of type.SimpleCondition = codes "SIMPLE-CONDITION"
name_of type.Warning = codes "WARNING"
name_of type.Error = codes "ERROR"
name_of type.StorageCondition = codes "STORAGE-CONDITION"
name_of type.SimpleError = codes "SIMPLE-ERROR"
name_of type.SimpleWarning = codes "SIMPLE-WARNING"
name_of type.StyleWarning = codes "STYLE-WARNING"
name_of type.ArithmeticError = codes "ARITHMETIC-ERROR"
name_of type.CellError = codes "CELL-ERROR"
name_of type.ControlError = codes "CONTROL-ERROR"
name_of type.ProgramError = codes "PROGRAM-ERROR"
name_of type.TypeError = codes "TYPE-ERROR"
name_of type.DivisionByZero = codes "DIVISION-BY-ZERO"
name_of type.UnboundVariable = codes "UNBOUND-VARIABLE"
name_of type.UndefinedFunction = codes "UNDEFINED-FUNCTION"
name_of type.List = codes "LIST"
name_of type.Symbol = codes "SYMBOL"
name_of type.String = codes "STRING"
name_of type.Number = codes "NUMBER"
name_of type.Cons = codes "CONS"
name_of type.Null = codes "NULL"
name_of type.Keyword = codes "KEYWORD"
name_of type.Integer = codes "INTEGER"
