-- The tree of a form, or the first of its subforms in preorder that no row of the syntax fits; and the form of a tree.
use Rattle.std.specs.Prelude.{ℕ, zero, suc, ◌++◌, map, List, [], ◌∷◌, Option, Some, None, Result, Ok, Err}
use Rattle.lisp_data.specs.declared.value.Value.{Value}
use Rattle.lisp_data.specs.Value.{depth_of}
use Rattle.syntax_trees.specs.declared.ast.Ast.{Ast}
use Rattle.syntax_trees.specs.declared.ast.Ast.TheFolds.{fold-Ast}
use Rattle.syntax_trees.specs.declared.ast.Ast.TheOpen.{Ast-F}
use Rattle.syntax_trees.specs.declared.ast.Ast.TheViews.{roll-Ast}
use Rattle.syntax_trees.specs.declared.row.Row.{Row}
use Rattle.lisp_syntax.specs.declared.sort.Sort.{Sort}
use Rattle.lisp_syntax.specs.declared.sort.Sort.TheVariants as sort
use Rattle.lisp_syntax.specs.Rows.{Fitting, body_sort, fitted, form_of}
use Rattle.lisp_syntax.specs.Table.{row_of}

-- ---- forms to trees

-- a value, and as what it is read
pub record Item : Type 0 where
  pub sort : Sort
  pub value : Value

abbrev pub item : Sort → Value → Item
item s v = record { sort = s; value = v }

-- the subforms of a row in the order in which they are written, each with its sort
abbrev pub subforms : Fitting → List Item
subforms f = map (item sort.Form) f.lead ++ map (item (body_sort f.row)) f.body

-- the next step, where this one gives something
infixl 10 ◌>>=◌
abbrev pub ◌>>=◌ : {A B : Type 0} → Result A Value → (A → Result B Value) → Result B Value
(Ok x) >>= f = f x
(Err u) >>= f = Err u

-- what each item gives, from left to right
abbrev pub each : {A B : Type 0} → (A → Result B Value) → List A → Result (List B) Value
each f [] = Ok []
each f (x ∷ xs) = do
  y ← f x
  ys ← each f xs
  Ok (y ∷ ys)

-- the tree of a row with these subtrees
abbrev pub node : Row → List Ast → Ast
node r ts = roll-Ast (record { row = r; forms = ts })

-- what is made of a row: the tree with the trees of its subforms, or the first bad one among them
abbrev pub tree_of : (Item → Result Ast Value) → Fitting → Result Ast Value
tree_of parse f = do
  ts ← each parse (subforms f)
  Ok (node f.row ts)

-- a form without a row is itself the first bad one; else the first bad one of its subforms counts
abbrev pub planted : (Item → Result Ast Value) → Value → Option Fitting → Result Ast Value
planted parse v None = Err v
planted parse v (Some f) = tree_of parse f

abbrev pub parsed_within : ℕ → Item → Result Ast Value
parsed_within zero i = Err i.value
parsed_within (suc n) i = planted (parsed_within n) i.value (row_of i.sort i.value)

-- The tree of a form or a clause, or its first bad subform: what its row gives, with the same of its subforms. Each of them is less deep
-- than the form, so one step more than the form is deep are enough.
unfoldable pub parsed_item : Item → Result Ast Value
parsed_item i = parsed_within (suc (depth_of i.value)) i

-- the tree of a form, or its first bad subform
abbrev pub parsed : Value → Result Ast Value
parsed v = parsed_item (item sort.Form v)

-- ---- trees to forms

abbrev pub node_form : Ast-F Value → Value
node_form n = form_of (fitted n.row n.forms)

-- the form that a tree stands for: that of its row, with the forms of its subtrees in their places
abbrev pub unparsed : Ast → Value
unparsed = fold-Ast Value node_form
