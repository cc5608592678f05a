-- Places of rows of forms, and a form's row and subforms.
use Rattle.std.specs.Prelude.{ℕ, List, [], get_or}
use Rattle.syntax_trees.specs.declared.ast.Ast.{Ast}
use Rattle.syntax_trees.specs.declared.ast.Ast.TheViews.{out-Ast, roll-Ast}
use Rattle.syntax_trees.specs.declared.row.Bare.TheVariants.{Progn}
use Rattle.syntax_trees.specs.declared.row.Row.{Row}
use Rattle.syntax_trees.specs.declared.row.Row.TheVariants.{Bare}

-- a form that stands nowhere
abbrev pub no_form : Ast
no_form = roll-Ast (record { row = Bare Progn; forms = [] })

-- the form at a place of a row, counted from 0
abbrev pub form_at : ℕ → List Ast → Ast
form_at n forms = get_or forms n no_form

-- a form's row, and its subforms in the order in which they are written
abbrev pub row_of : Ast → Row
row_of a = (out-Ast a).row

abbrev pub forms_of : Ast → List Ast
forms_of a = (out-Ast a).forms
