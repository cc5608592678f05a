-- What a request's function answers: SLIME's `swank.lisp`, function by function.
use Rattle.std.specs.Prelude.{ℕ, Bool, true, false, if◌then◌else◌, List, [], ◌∷◌, Option, Some, None, option_map, Result, Ok, Err}
use Rattle.sexp_reader.specs.Names.{fault_name}
use Rattle.lisp_data.specs.declared.sexp.Sexp.{Sexp}
use Rattle.lisp_data.specs.declared.sexp.Sexp.TheVariants as form
use Rattle.lisp_data.specs.declared.value.Value.{Value}
use Rattle.lisp_data.specs.declared.value.Value.TheVariants as value
use Rattle.lisp_data.specs.declared.value.Condition.{Condition}
use Rattle.lisp_data.specs.Sexp.{nil}
use Rattle.lisp_errors.specs.Causes.{bad_arguments, package_not_found, reader_fault}
use Rattle.lisp_errors.specs.Limits.{value_too_large}
use Rattle.lisp_packages.specs.Packages.{name_at, place_of}
use Rattle.sexp_reader.specs.declared.fault.ReadFault.{ReadFault}
use Rattle.sexp_reader.specs.declared.placed.Placed.{Placed}
use Rattle.step_model.specs.CurrentPackage.{global_package, package_variable}
use Rattle.step_model.specs.Image.{ImageState, with_global}
use Rattle.step_model.specs.Rules.{Asked, Command}
use Rattle.step_model.specs.Rules as rules
use Rattle.swank_rpc.specs.declared.answer.Answer.{Answer}
use Rattle.swank_rpc.specs.declared.answer.Answer.TheVariants as answer
use Rattle.swank_rpc.specs.declared.function.SwankFunction.{SwankFunction}
use Rattle.swank_rpc.specs.declared.function.SwankFunction.TheVariants as function
use Rattle.swank_rpc.specs.Calls.{bad_call, first_text, is_too_heavy, parts, unknown_function}
use Rattle.swank_rpc.specs.Info.{connection_info, package_names, repl_package}
use Rattle.swank_rpc.specs.Kept.{kept}
use Rattle.swank_rpc.specs.Names.{function_of, name_of}
use Rattle.swank_rpc.specs.Texts.{forms_of}

-- what a call gives
pub data Given : Type 0 where
  -- this reply
  Replies : Sexp → Given
  -- this reply, once the global package's variable has this value
  RepliesIn : (global : Value) → Sexp → Given
  Refuses : Condition → Given
  -- these forms are evaluated, and what is kept goes into the reply
  Evaluates : List Placed → (kept : Sexp) → Given

-- ---- the functions that take a text

-- whether there is a form
abbrev pub is_some_form : List Placed → Bool
is_some_form [] = false
is_some_form (_ ∷ _) = true

-- the forms of a text, which is read whole first; the name is that of the global package
abbrev pub evaluated : List ℕ → Result (List Placed) ReadFault → Given
evaluated global (Ok forms) = Evaluates forms (kept (is_some_form forms) global)
evaluated global (Err fault) = Refuses (reader_fault (fault_name fault))

abbrev pub evaluates : ImageState → List ℕ → Given
evaluates image text = evaluated (global_package image) (forms_of text)

-- the full name of the package that a text names
abbrev pub full_name : ImageState → List ℕ → Option (List ℕ)
full_name image text = option_map (name_at image.packages) (place_of image.packages text)

-- `set-package` gives the variable the full name
abbrev pub set_to : ImageState → List ℕ → Option (List ℕ) → Given
set_to image text (Some name) = RepliesIn (value.Str name) (repl_package (with_global image package_variable (value.Str name)))
set_to image text None = Refuses (package_not_found text)

abbrev pub sets_package : ImageState → List ℕ → Given
sets_package image text = set_to image text (full_name image text)

-- a function that takes a text, with its first argument where that is one
abbrev pub with_text : SwankFunction → Option (List ℕ) → (List ℕ → Given) → Given
with_text f (Some text) given = given text
with_text f None given = Refuses (bad_arguments (name_of f))

-- ---- the table

-- what a function gives, with its arguments
abbrev pub row : ImageState → List Sexp → SwankFunction → Given
row image arguments function.ConnectionInfo = Replies (connection_info image)
row image arguments function.CreateRepl = Replies (repl_package image)
row image arguments function.SetPackage = with_text function.SetPackage (first_text arguments) (sets_package image)
row image arguments function.SwankRequire = Replies nil
row image arguments function.BufferFirstChange = Replies nil
row image arguments function.InteractiveEval = with_text function.InteractiveEval (first_text arguments) (evaluates image)
row image arguments function.InteractiveEvalRegion = with_text function.InteractiveEvalRegion (first_text arguments) (evaluates image)
row image arguments function.ListenerEval = with_text function.ListenerEval (first_text arguments) (evaluates image)
row image arguments function.ListAllPackageNames = Replies (package_names image.packages)

-- the function of a head, by its token
abbrev pub called_by : List ℕ → List ℕ → ImageState → List Sexp → Option SwankFunction → Given
called_by token current image arguments (Some f) = row image arguments f
called_by token current image arguments None = Refuses (unknown_function current token)

abbrev pub called_in : Sexp → List ℕ → ImageState → Option (List ℕ × List Sexp) → Given
called_in form current image (Some call) = called_by call.0 current image call.1 (function_of call.0)
called_in form current image None = Refuses (bad_call form)

-- what a request's form gives, with the full name of the current package
abbrev pub called : Sexp → List ℕ → ImageState → Given
called form current image = if is_too_heavy form then Refuses value_too_large else called_in form current image (parts form)

-- ---- what is done with it

-- the answer that a call gives
abbrev pub answer_of : Given → Answer
answer_of (Replies reply) = answer.Value reply
answer_of (RepliesIn global reply) = answer.Value reply
answer_of (Refuses condition) = answer.Raised condition
answer_of (Evaluates forms kept) = answer.Run forms kept

-- the image that it leaves
abbrev pub image_after : Given → ImageState → ImageState
image_after (RepliesIn global reply) image = with_global image package_variable global
image_after _ image = image

-- the command that it is in the table of steps
abbrev pub command_of : List Value → Given → Command
command_of inspected (Replies reply) = rules.Answers inspected reply
command_of inspected (RepliesIn global reply) = rules.AnswersIn global reply
command_of inspected (Refuses condition) = rules.Refuses condition
command_of inspected (Evaluates forms kept) = rules.Evaluates forms None kept

-- what a request's function says is to be done
abbrev pub command : Asked → Command
command asked = command_of asked.inspected (called asked.form asked.current asked.image)
