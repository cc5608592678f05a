-- The first bad form in a form, as a relation: by the table of rows and the order of the subforms alone.
use Rattle.std.specs.Prelude.{◌≡◌, List, [], ◌∷◌, Some, None}
use Rattle.lisp_data.specs.declared.value.Value.{Value}
use Rattle.lisp_syntax.specs.Rows.{Fitting}
use Rattle.lisp_syntax.specs.Table.{row_of}
use Rattle.lisp_syntax.specs.Parsing.{Item, subforms}

-- a form that has a row, and whose subforms are good
mutual
  pub data IsGood : Item → Type 0 where
    by_row : (i : Item) (f : Fitting) → row_of i.sort i.value ≡ Some f → AreGood (subforms f) → IsGood i

  pub data AreGood : List Item → Type 0 where
    none : AreGood []
    more : (i : Item) (is : List Item) → IsGood i → AreGood is → AreGood (i ∷ is)

-- the value is the first bad form in a form: that form itself, where it has no row, else the first bad one in the first of its subforms
-- that isn't good
mutual
  pub data FirstBad : Item → Value → Type 0 where
    here : (i : Item) → row_of i.sort i.value ≡ None → FirstBad i i.value
    inside : (i : Item) (u : Value) (f : Fitting) → row_of i.sort i.value ≡ Some f → FirstBadOf (subforms f) u → FirstBad i u

  pub data FirstBadOf : List Item → Value → Type 0 where
    at : (i : Item) (u : Value) (is : List Item) → FirstBad i u → FirstBadOf (i ∷ is) u
    past : (i : Item) (u : Value) (is : List Item) → IsGood i → FirstBadOf is u → FirstBadOf (i ∷ is) u
