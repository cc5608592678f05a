-- What the value of a request's forms gives: what is written, and the reply. SLIME's `swank.lisp` and, for the REPL, `swank-repl.lisp`.
use Rattle.std.specs.Prelude.{ℕ, Bool, true, false, if◌then◌else◌, List, [], ◌∷◌, ◌++◌, map, codes, Option, Some, None, option_and_then, Result, Ok, Err}
use Rattle.lisp_data.specs.declared.sexp.Sexp.{Sexp}
use Rattle.lisp_data.specs.declared.sexp.Sexp.TheVariants as form
use Rattle.lisp_data.specs.declared.value.Value.{Value}
use Rattle.lisp_data.specs.declared.value.Condition.{Condition}
use Rattle.lisp_data.specs.Sexp.{nil}
use Rattle.lisp_errors.specs.Limits.{value_too_large}
use Rattle.rpc_messages.specs.declared.to_emacs.ToEmacs.{ToEmacs}
use Rattle.rpc_messages.specs.declared.to_emacs.ToEmacs.TheVariants as message
use Rattle.sexp_printer.specs.UserText.{user_text}
use Rattle.step_model.specs.CurrentPackage.{global_package}
use Rattle.step_model.specs.Image.{ImageState}
use Rattle.step_model.specs.Rules.{Asked, Finish, Writing, Output, NewPackage}
use Rattle.step_model.specs.Rules as rules
use Rattle.swank_rpc.specs.declared.answer.Answer.{Answer}
use Rattle.swank_rpc.specs.declared.answer.Answer.TheVariants as answer
use Rattle.swank_rpc.specs.declared.function.SwankFunction.{SwankFunction}
use Rattle.swank_rpc.specs.declared.function.SwankFunction.TheVariants as function
use Rattle.swank_rpc.specs.Calls.{parts}
use Rattle.swank_rpc.specs.Info.{prompt}
use Rattle.swank_rpc.specs.Kept.{began_in, has_form}
use Rattle.swank_rpc.specs.Names.{function_of}
use Rattle.swank_rpc.specs.Texts.{no_value, within}

-- what is written and the reply, or what is raised in their place
abbrev pub Ended : Type 0
Ended = Result (List Writing × Sexp) Condition

-- a text that was made, and what it gives, unless it is too large
abbrev pub with_text : Option (List ℕ) → (List ℕ → Ended) → Ended
with_text (Some text) given = given text
with_text None given = Err value_too_large

abbrev pub replies_text : List ℕ → Ended
replies_text text = Ok ([], form.Str text)

-- the reply `"=> V"`, or that there is no value
abbrev pub replies_value : Bool → Value → List ℕ → Ended
replies_value true v current = with_text (within (codes "=> " ++ user_text current true v)) replies_text
replies_value false v current = replies_text no_value

-- the package's name and prompt, where the global package isn't that of the beginning
abbrev pub new_package : Sexp → ImageState → List Writing
new_package kept image =
    if began_in kept (global_package image) then [] else NewPackage (global_package image) (prompt image.packages (global_package image)) ∷ []

-- the result of the REPL, and then the new package
abbrev pub writes_text : Sexp → ImageState → List ℕ → Ended
writes_text kept image text = Ok (Output text true ∷ new_package kept image, nil)

-- V, or that there is no value, and a newline
abbrev pub writes_value : Bool → Sexp → Value → List ℕ → ImageState → Ended
writes_value true kept v current image = with_text (within (user_text current true v ++ codes "\n")) (writes_text kept image)
writes_value false kept v current image = writes_text kept image (no_value ++ codes "\n")

-- what the value gives at the end of the forms of this function. No other function has forms
abbrev pub ended_by : Option SwankFunction → Sexp → Value → List ℕ → ImageState → Ended
ended_by (Some function.InteractiveEval) kept v current image = replies_value (has_form kept) v current
ended_by (Some function.InteractiveEvalRegion) kept v current image = replies_value (has_form kept) v current
ended_by (Some function.ListenerEval) kept v current image = writes_value (has_form kept) kept v current image
ended_by _ kept v current image = Ok ([], nil)

-- the function that a form calls
abbrev pub function_called : Sexp → Option SwankFunction
function_called form = option_and_then (λ call. function_of call.0) (parts form)

-- what the value gives, by the request's form, what was kept, and the full name of the current package
abbrev pub ended : Sexp → Sexp → Value → List ℕ → ImageState → Ended
ended form kept v current image = ended_by (function_called form) kept v current image

-- ---- what is done with it

abbrev pub answer_of : Ended → Answer
answer_of (Ok e) = answer.Value e.1
answer_of (Err condition) = answer.Raised condition

abbrev pub message_of : Writing → ToEmacs
message_of (Output text repl_result) = message.WriteString text repl_result
message_of (NewPackage name prompt) = message.NewPackage name prompt

-- the messages that it writes
abbrev pub written : Ended → List ToEmacs
written (Ok e) = map message_of e.0
written (Err condition) = []

-- the command that it is in the table of steps
abbrev pub finish_of : List Value → Ended → Finish
finish_of inspected (Ok e) = rules.Replies e.0 inspected e.1
finish_of inspected (Err condition) = rules.Fails condition

-- what the value of a request's forms gives
abbrev pub finish : Asked → Sexp → Value → Finish
finish asked kept v = finish_of asked.inspected (ended asked.form kept v asked.current asked.image)
