-- A form of which parts are evaluated.
use Rattle.std.specs.Prelude.{ℕ, List, [], Option, Some, None}
use Rattle.lisp_data.specs.declared.value.Value.{Value}
use Rattle.syntax_trees.specs.declared.ast.Ast.{Ast}
use Rattle.syntax_trees.specs.declared.row.Bare.TheVariants.{Progn}
use Rattle.syntax_trees.specs.declared.row.Row.{Row}
use Rattle.syntax_trees.specs.declared.row.Row.TheVariants.{Bare}
use Rattle.syntax_trees.specs.Places.{row_of, forms_of}

-- its row, how many parts are taken, the values so far, and the forms that are left
pub record Progress : Type 0 where
  pub row : Row
  pub done : ℕ
  pub values : List Value
  pub rest : List Ast

abbrev pub progress : Row → ℕ → List Value → List Ast → Progress
progress r d vs es = record { row = r; done = d; values = vs; rest = es }

-- the row of a form; that of a body is the one of `progn`
abbrev pub row_in : Option Ast → Row
row_in None = Bare Progn
row_in (Some a) = row_of a

-- nothing of the form is evaluated yet
abbrev pub begun : Ast → Progress
begun a = progress (row_of a) 0 [] (forms_of a)
