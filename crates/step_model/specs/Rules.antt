-- What the table of steps takes from the layer above, as one record of functions: what a request's function answers. The laws hold of every
-- such record.
use Rattle.std.specs.Prelude.{ℕ, ℤ, Bool, List, Option, Result}
use Rattle.lisp_data.specs.declared.sexp.Sexp.{Sexp}
use Rattle.lisp_data.specs.declared.symbol.Symbol.{Symbol}
use Rattle.lisp_data.specs.declared.value.Value.{Value}
use Rattle.lisp_data.specs.declared.value.Condition.{Condition}
use Rattle.sexp_reader.specs.declared.placed.Placed.{Placed}
use Rattle.term_model.specs.declared.focus.Origin.{Origin}
use Rattle.term_model.specs.Term.{Context}
use Rattle.step_model.specs.Built.{Built}
use Rattle.step_model.specs.Image.{ImageState}

-- what a request's function sees. `form` is the request's form, `current` the full name of the current package, `inspected` what is
-- inspected and, behind it, the values kept before, and `threads` the numbers of the live threads
pub record Asked : Type 0 where
  pub form : Sexp
  pub context : Context
  pub current : List ℕ
  pub image : ImageState
  pub inspected : List Value
  pub threads : List ℕ

-- what it says is to be done
pub data Command : Type 0 where
  -- to reply this, with these values inspected
  Answers : List Value → Sexp → Command
  -- to set the global package first
  AnswersIn : (global : Value) → Sexp → Command
  Refuses : Condition → Command
  -- to evaluate these forms, and to make the reply of the value and of what is kept
  Evaluates : List Placed → Option Origin → (kept : Sexp) → Command
  -- the same with the variables of a frame of the level; of a text that doesn't read the condition is raised once the frame was found
  EvaluatesIn : (frame : ℤ) → Result (List Placed) Condition → (kept : Sexp) → Command
  -- the same, of a frame that is then to be left with the value
  EvaluatesToReturn : (frame : ℤ) → Result (List Placed) Condition → (kept : Sexp) → Command
  -- to call again in a frame
  CallsAgain : (frame : ℤ) → Command
  -- to invoke a restart of a level, by its place
  InvokesNth : (level place : ℤ) → Command
  -- to invoke the first restart of this name of the current level
  InvokesFirst : Symbol → Command
  -- to invoke the ABORT of the top
  InvokesTop : Command
  -- to close the session
  Closes : Command

-- what is written to the user
pub data Writing : Type 0 where
  Output : List ℕ → (repl_result : Bool) → Writing
  NewPackage : (name prompt : List ℕ) → Writing

-- what the value of a request's forms gives
pub data Finish : Type 0 where
  -- these messages and this reply, with these values inspected
  Replies : List Writing → List Value → Sexp → Finish
  Fails : Condition → Finish
  -- leaving a frame of the level with the value
  LeavesFrame : (frame : ℤ) → Finish

pub record Rules : Type 0 where
  -- what a request's function says is to be done
  pub command : Asked → Command
  -- what it says of the value of its forms, with what was kept
  pub finish : Asked → (kept : Sexp) → Value → Finish
  -- what of the table the program can do so far. No row reads it
  pub built : Built
