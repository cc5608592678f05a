-- What the rows that are built make of a thread whose layers are simple: its stack, what is written, and whether it is over.
use Rattle.std.specs.Prelude.{ℕ, ℤ, Bool, true, false, List, [], ◌∷◌, ◌++◌, Option, Some, None, Result, Ok, Err, option_map, unwrap_or}
use Rattle.lisp_data.specs.declared.sexp.Sexp.{Sexp}
use Rattle.lisp_data.specs.declared.sexp.Sexp.TheVariants as form
use Rattle.lisp_data.specs.declared.sexp.Sexp.TheViews.{out-Sexp}
use Rattle.lisp_data.specs.declared.value.Value.{Value}
use Rattle.lisp_data.specs.declared.value.Value as value
use Rattle.lisp_frames.specs.Resumed.{entered, next_in}
use Rattle.lisp_frames.specs.Stack.{StackState, innermost, outer, with_context, with_redex, within}
use Rattle.lisp_packages.specs.declared.lisp_package.Package.{Package}
use Rattle.lisp_packages.specs.Naming.{Valued, in_named, valued}
use Rattle.mailboxes.specs.Mail.{first_accepted, without_accepted}
use Rattle.rpc_messages.specs.declared.from_emacs.FromEmacs.{FromEmacs}
use Rattle.rpc_messages.specs.declared.from_emacs.FromEmacs.TheVariants as mail
use Rattle.rpc_messages.specs.declared.pattern.Pattern.TheVariants as pattern
use Rattle.rpc_messages.specs.declared.to_emacs.Returned.TheVariants as returned
use Rattle.rpc_messages.specs.declared.to_emacs.ToEmacs.{ToEmacs}
use Rattle.rpc_messages.specs.declared.to_emacs.ToEmacs.TheVariants as message
use Rattle.sexp_reader.specs.declared.placed.Placed.{Placed}
use Rattle.server_rules.specs.Leaving.{aborts}
use Rattle.step_model.specs.CurrentPackage.{binds_package, bound_package, current_package}
use Rattle.step_model.specs.Image.{ImageState, with_packages}
use Rattle.step_model.specs.Now.{Mailbox}
use Rattle.step_model.specs.Perform.{answer_in, is_top, package_bound}
use Rattle.step_model.specs.Requests.{before_forms, placed_found}
use Rattle.step_model.specs.Roles.{role_of}
use Rattle.swank_rpc.specs.Calls.{is_served}
use Rattle.swank_rpc.specs.Commands.{Given, answer_of, called, image_after}
use Rattle.swank_rpc.specs.Finishes.{Ended, ended, written}
use Rattle.swank_rpc.specs.Finishes as end
use Rattle.swank_rpc.specs.declared.answer.Answer.{Answer}
use Rattle.swank_rpc.specs.declared.answer.Answer.TheVariants as answer
use Rattle.lisp_syntax.specs.Parsing.{parsed}
use Rattle.syntax_trees.specs.declared.ast.Ast.{Ast}
use Rattle.syntax_trees.specs.declared.row.Row.{Row}
use Rattle.syntax_trees.specs.declared.row.Row.TheVariants as row
use Rattle.syntax_trees.specs.Places.{row_of}
use Rattle.term_model.specs.declared.focus.Focus.{Focus}
use Rattle.term_model.specs.declared.focus.Focus.TheVariants as focus
use Rattle.term_model.specs.declared.focus.Origin.{Origin}
use Rattle.term_model.specs.declared.found.Found.{Found}
use Rattle.term_model.specs.declared.found.Found.TheVariants.{Already, Here}
use Rattle.term_model.specs.declared.frame.Frame.{Frame}
use Rattle.term_model.specs.declared.frame.Frame.TheVariants as frame
use Rattle.term_model.specs.declared.kept.Outcome.{Outcome}
use Rattle.term_model.specs.declared.kept.Outcome.TheVariants as outcome
use Rattle.term_model.specs.declared.plain.Plain.{Plain}
use Rattle.term_model.specs.declared.plain.Plain.TheVariants as plain
use Rattle.lisp_data.specs.Parts.{nil}
use Rattle.term_model.specs.Levels.{served_form}
use Rattle.term_model.specs.Room.{is_within, room, wrap}
use Rattle.term_model.specs.Term.{Context}
use Rattle.lisp_step.specs.declared.task.Part.{Part}
use Rattle.lisp_step.specs.declared.task.Part.TheVariants as part
use Rattle.lisp_step.specs.declared.task.Task.{Task}
use Rattle.lisp_step.specs.declared.task.Task.TheVariants as task

-- what a redex asks for
abbrev pub task_of : Focus → Task
task_of (focus.Wait p) = task.Wait p
task_of (focus.Forms forms origin) = task.Run forms origin
task_of (focus.Given o) = task.Give o
task_of focus.Rpc = task.Call
task_of _ = task.Leave

pub record Done : Type 0 where
  pub stack : StackState
  pub messages : List ToEmacs
  pub over : Bool

-- nothing is written
abbrev pub stays : StackState → Done
stays s = record { stack = s; messages = []; over = false }

-- ---- leaving

-- waiting for a request with nothing around
abbrev pub at_top : StackState → StackState
at_top s = record { context = []; redex = focus.Wait pattern.Rex; serial = s.serial }

abbrev pub leaves : StackState → Done
leaves s = record { stack = at_top s; messages = aborts s.context; over = true }

-- ---- going on inside the layers

abbrev pub laid_if : Bool → StackState → List Plain → Found → StackState
laid_if true s ps found = entered (wrap (room s.context) s.context ps found) s
laid_if false s ps found = s

-- with these markers and this form; where there is no room for a layer the thread leaves next
abbrev pub laid : StackState → List Plain → Found → StackState
laid s ps found = laid_if (is_within s.context) (with_redex focus.Abort s) ps found

abbrev pub resumed_by : Option Found → Value → StackState → StackState
resumed_by (Some found) v s = laid (with_context (outer s.context) s) [] found
resumed_by None v s = with_redex (focus.Given (outcome.Value v)) s

abbrev pub given_value : StackState → Value → StackState
given_value s v = resumed_by (next_in s.context v) v s

-- with an outcome for what is directly around
abbrev pub given : StackState → Outcome → StackState
given s (outcome.Value v) = given_value s v
given s (outcome.Reply r) = with_redex (focus.Given (outcome.Reply r)) s

abbrev pub gone : StackState → List Plain → Found → StackState
gone s [] (Already v) = given_value s v
gone s ps found = laid s ps found

-- ---- waiting

abbrev pub received : StackState → ImageState → ℕ → FromEmacs → StackState
received s image i (mail.Rex form «package» thread id) =
    laid (within (frame.Rex i id form) s) (package_bound (binds_package form) (bound_package image «package»)) (Here focus.Rpc)
received s image i (mail.ReturnString thread tag text) = given_value s (value.Str text)
received s image i (mail.Return thread tag form) = given_value s (answer_in (out-Sexp form))
received s image i _ = s

abbrev pub waited : StackState → ImageState → Option (ℕ × FromEmacs) → StackState
waited s image None = s
waited s image (Some m) = received s image m.0 m.1

-- ---- the forms of a text

abbrev pub value_in : Valued → Option Value
value_in (Ok found) = Some found.1
value_in (Err why) = None

abbrev pub packages_in : List Package → Valued → List Package
packages_in ps (Ok found) = found.0
packages_in ps (Err why) = ps

abbrev pub tree_or_none : Result Ast Value → Option Ast
tree_or_none (Ok e) = Some e
tree_or_none (Err bad) = None

abbrev pub tree_with : List Package → Result Ast Value → Option (List Package × Ast)
tree_with ps (Ok e) = Some (ps, e)
tree_with ps (Err bad) = None

abbrev pub tree_in : Valued → Option (List Package × Ast)
tree_in (Ok found) = tree_with found.0 (parsed found.1)
tree_in (Err why) = None

-- the tree of a form where this package is current, and the packages that naming its symbols leaves; None where it is refused
abbrev pub resolved : List Package → List ℕ → Sexp → Option (List Package × Ast)
resolved packages current form = tree_in (in_named packages current (λ i. valued i form packages))

abbrev pub tree_of : Option (List Package × Ast) → Option Ast
tree_of found = option_map (λ r. r.1) found

abbrev pub packages_with : List Package → Option (List Package × Ast) → List Package
packages_with packages None = packages
packages_with packages (Some found) = found.0

abbrev pub image_with : ImageState → Option (List Package × Ast) → ImageState
image_with image found = with_packages image (packages_with image.packages found)

abbrev pub is_definition : Row → Bool
is_definition (row.Defun name parameters) = true
is_definition _ = false

-- with the tree of a form that stands at this place, and the forms behind it
abbrev pub formed : StackState → ℕ → List Placed → Option Origin → Option Ast → Done
formed s at ps origin (Some e) = stays (gone s (before_forms ps origin) (placed_found e (role_of (row_of e)) origin at))
formed s at ps origin None = leaves s

abbrev pub first_resolved : ImageState → Context → Placed → Option (List Package × Ast)
first_resolved image c p = resolved image.packages (current_package image c) p.form

abbrev pub runs : ImageState → StackState → List Placed → Option Origin → Done
runs image s [] origin = stays (given_value s nil)
runs image s (p ∷ ps) origin = formed s p.at ps origin (tree_of (first_resolved image s.context p))

abbrev pub image_run : ImageState → Context → List Placed → ImageState
image_run image c [] = image
image_run image c (p ∷ ps) = image_with image (first_resolved image c p)

-- ---- requests

-- what is done with the answer of a request's function
abbrev pub carried : StackState → Answer → Done
carried s (answer.Value reply) = stays (with_redex (focus.Given (outcome.Reply reply)) s)
carried s (answer.Raised condition) = leaves s
carried s (answer.Run forms kept) = stays (laid s (plain.Answer kept ∷ []) (Here (focus.Forms forms None)))

-- the form of the nearest request
abbrev pub request_of : Context → Sexp
request_of c = unwrap_or (served_form c) (form.List [])

abbrev pub called_in : ImageState → Context → Given
called_in image c = called (request_of c) (current_package image c) image

abbrev pub answer_if : Bool → Given → Option Answer
answer_if true g = Some (answer_of g)
answer_if false g = None

abbrev pub carried_or_left : StackState → Option Answer → Done
carried_or_left s (Some a) = carried s a
carried_or_left s None = leaves s

abbrev pub image_if : Bool → ImageState → Given → ImageState
image_if true image g = image_after g image
image_if false image g = image

-- the function of the nearest request is called, where it is built
abbrev pub calls : ImageState → StackState → Done
calls image s = carried_or_left s (answer_if (is_served (request_of s.context)) (called_in image s.context))

abbrev pub image_called : ImageState → Context → ImageState
image_called image c = image_if (is_served (request_of c)) image (called_in image c)

-- ---- outcomes

abbrev pub ended_in : ImageState → Context → Sexp → Value → Ended
ended_in image c kept v = ended (request_of c) kept v (current_package image c) image

-- these messages come before
abbrev pub behind : List ToEmacs → Done → Done
behind messages d = record { stack = d.stack; messages = messages ++ d.messages; over = d.over }

abbrev pub finished : StackState → Ended → Done
finished s e = behind (written e) (carried s (end.answer_of e))

-- what a plain layer does with an outcome
abbrev pub part_of : Plain → Part
part_of (plain.Before f) = part.Before f
part_of (plain.Answer kept) = part.Answer kept
part_of _ = part.Other

-- an outcome in a plain layer, which is off the stack
abbrev pub in_plain : ImageState → StackState → Part → Outcome → Done
in_plain image s (part.Before f) o = stays (with_redex f s)
in_plain image s (part.Answer kept) (outcome.Value v) = finished s (ended_in image s.context kept v)
in_plain image s (part.Answer kept) (outcome.Reply r) = stays (given s (outcome.Reply r))
in_plain image s part.Other o = stays (given s o)

-- a request, which is off the stack, with its reply
abbrev pub request_ended : StackState → ℤ → Sexp → Done
request_ended s id reply =
    record { stack = with_redex (focus.Wait pattern.Rex) s; messages = message.Return id (returned.Ok reply) ∷ []; over = is_top s.context }

-- an outcome in the layer that was directly around it and is off the stack: a value stays in a request as it is
abbrev pub in_layer : ImageState → StackState → Option Frame → Outcome → Done
in_layer image s (Some (frame.On p)) o = in_plain image s (part_of p) o
in_layer image s (Some (frame.Rex i id form)) (outcome.Reply r) = request_ended s id r
in_layer image s (Some (frame.Rex i id form)) (outcome.Value v) = stays (with_redex (focus.Given (outcome.Value v)) (within (frame.Rex i id form) s))
in_layer image s _ o = leaves s

abbrev pub gives : ImageState → StackState → Outcome → Done
gives image s o = in_layer image (with_context (outer s.context) s) (innermost s.context) o

-- ---- the rows

abbrev pub does : ImageState → Mailbox → StackState → Task → Done
does image mailbox s (task.Wait p) = stays (waited (with_redex (focus.Wait p) s) image (first_accepted p mailbox))
does image mailbox s (task.Run forms origin) = runs image s forms origin
does image mailbox s (task.Give o) = gives image s o
does image mailbox s task.Call = calls image s
does image mailbox s task.Leave = leaves s

abbrev pub mail_left : Mailbox → Task → Mailbox
mail_left mailbox (task.Wait p) = without_accepted p mailbox
mail_left mailbox _ = mailbox

abbrev pub image_left : ImageState → Context → Task → ImageState
image_left image c (task.Run forms origin) = image_run image c forms
image_left image c task.Call = image_called image c
image_left image c _ = image
