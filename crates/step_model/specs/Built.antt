-- What the program can do so far of the table of steps, as one record beside it. No row of the table reads it.
use Rattle.std.specs.Prelude.{ℕ, Bool}
use Rattle.lisp_data.specs.declared.sexp.Sexp.{Sexp}
use Rattle.term_model.specs.declared.focus.Focus.{Focus}
use Rattle.term_model.specs.Term.{Context}

pub record Built : Type 0 where
  -- whether the row of a redex in this context is built; of the function of a request the next field says it
  pub has_row : Context → Focus → Bool
  -- whether the function of a request of this form is built
  pub serves : Sexp → Bool
  -- whether a raise is carried out
  pub raises : Bool
  -- how many levels of the debugger are opened
  pub levels : ℕ
  -- whether an interrupt for a live thread is kept
  pub interrupts : Bool
