-- The table of types: their direct parents, what is a subtype of what, and the type of a value.
use Rattle.std.specs.Prelude.{List, [], ◌∷◌, Contains, if◌then◌else◌}
use Rattle.lisp_data.specs.Symbols.{is_keyword}
use Rattle.lisp_data.specs.declared.type_id.TypeId.{TypeId}
use Rattle.lisp_data.specs.declared.type_id.TypeId.TheVariants as type
use Rattle.lisp_data.specs.declared.value.Value.{Value}
use Rattle.lisp_data.specs.declared.value.Value.TheOpen.{Value-F}
use Rattle.lisp_data.specs.declared.value.Value.TheViews.{out-Value}
use Rattle.lisp_data.specs.declared.value.Condition.{Condition}

-- the direct parents of a type (HyperSpec 9.1.1, figure 9-1 for conditions, 4.2.2 for the others)
abbrev pub parents_of : TypeId → List TypeId
parents_of type.T = []
parents_of type.Condition = type.T ∷ []
parents_of type.SeriousCondition = type.Condition ∷ []
parents_of type.SimpleCondition = type.Condition ∷ []
parents_of type.Warning = type.Condition ∷ []
parents_of type.Error = type.SeriousCondition ∷ []
parents_of type.StorageCondition = type.SeriousCondition ∷ []
parents_of type.SimpleError = type.SimpleCondition ∷ type.Error ∷ []
parents_of type.SimpleWarning = type.SimpleCondition ∷ type.Warning ∷ []
parents_of type.StyleWarning = type.Warning ∷ []
parents_of type.ArithmeticError = type.Error ∷ []
parents_of type.CellError = type.Error ∷ []
parents_of type.ControlError = type.Error ∷ []
parents_of type.ProgramError = type.Error ∷ []
parents_of type.TypeError = type.Error ∷ []
parents_of type.DivisionByZero = type.ArithmeticError ∷ []
parents_of type.UnboundVariable = type.CellError ∷ []
parents_of type.UndefinedFunction = type.CellError ∷ []
parents_of type.List = type.T ∷ []
parents_of type.Symbol = type.T ∷ []
parents_of type.String = type.T ∷ []
parents_of type.Number = type.T ∷ []
parents_of type.Cons = type.List ∷ []
parents_of type.Null = type.Symbol ∷ type.List ∷ []
parents_of type.Keyword = type.Symbol ∷ []
parents_of type.Integer = type.Number ∷ []

-- a type is another, where a chain of direct parents leads from it to that one; each type is itself (HyperSpec 4.2.2)
pub data IsA : TypeId → TypeId → Type 0 where
  itself : (t : TypeId) → IsA t t
  through : (t parent ancestor : TypeId) → Contains (parents_of t) parent → IsA parent ancestor → IsA t ancestor

-- the most specific type of a value, by its outermost part (HyperSpec, function TYPE-OF)
abbrev pub type_at : Value-F Value Condition → TypeId
type_at (Value-F.Int n) = type.Integer
type_at (Value-F.Str text) = type.String
type_at (Value-F.Sym symbol) = if is_keyword symbol then type.Keyword else type.Symbol
type_at (Value-F.List []) = type.Null
type_at (Value-F.List (first ∷ others)) = type.Cons
type_at (Value-F.Cond condition) = condition.kind

-- the same of the value
abbrev pub type_of : Value → TypeId
type_of value = type_at (out-Value value)
