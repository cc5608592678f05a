-- The trees of forms: a tree that is no function's definition has no place, and without a place none has.
use Rattle.std.proofs.Common.{◌≡◌, ℕ, false, refl}
use Rattle.std.specs.Prelude.{Option, None}
use Rattle.step_model.specs.Requests.{placed_found}
use Rattle.step_model.specs.Roles.{role_of}
use Rattle.syntax_trees.specs.declared.ast.Ast.{Ast}
use Rattle.syntax_trees.specs.declared.row.Row.{Row}
use Rattle.syntax_trees.specs.declared.row.Row.TheVariants as row
use Rattle.syntax_trees.specs.Places.{row_of}
use Rattle.term_model.specs.declared.focus.Origin.{Origin}
use Rattle.term_model.specs.GoingIn.{look}
use Rattle.lisp_step.specs.Rows.{is_definition}

placed-by : (a : Ast) (r : Row) (origin : Option Origin) (at : ℕ) → is_definition r ≡ false → placed_found a (role_of r) origin at ≡ look a
placed-by a (row.Defun name parameters) origin at e = absurd (cc)
placed-by a r origin at e = refl

-- a form that defines no function is found as it is
pub placed_plain : (a : Ast) (origin : Option Origin) (at : ℕ) → is_definition (row_of a) ≡ false → placed_found a (role_of (row_of a)) origin at ≡ look a
placed_plain a origin at e = placed-by a (row_of a) origin at e

unplaced : (a : Ast) (r : Row) (at : ℕ) → placed_found a (role_of r) None at ≡ look a
unplaced a (row.Defun name parameters) at = refl
unplaced a r at = refl

-- and so is every form of a text without a place
pub placed_nowhere : (a : Ast) (at : ℕ) → placed_found a (role_of (row_of a)) None at ≡ look a
placed_nowhere a at = unplaced a (row_of a) at
