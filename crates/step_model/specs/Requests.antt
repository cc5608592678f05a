-- The rows of requests: what the request's function says is to be done, the forms of its text, and the reply that their value makes.
use Rattle.std.specs.Prelude.{ℕ, ℤ, pos, negsuc, ◌==◌, Bool, true, false, List, [], ◌∷◌, ◌++◌, Option, Some, None, Result, unwrap_or, slice_get}
use Rattle.lisp_data.specs.declared.sexp.Sexp.{Sexp}
use Rattle.lisp_data.specs.declared.sexp.Sexp.TheVariants as form
use Rattle.lisp_data.specs.declared.symbol.Symbol.{Symbol}
use Rattle.lisp_data.specs.declared.value.Value.{Value}
use Rattle.lisp_data.specs.declared.value.Condition.{Condition}
use Rattle.lisp_packages.specs.Naming.{in_named, valued}
use Rattle.lisp_packages.specs.declared.lisp_package.Package.{Package}
use Rattle.lisp_syntax.specs.Parsing.{parsed}
use Rattle.sexp_reader.specs.declared.placed.Placed.{Placed}
use Rattle.syntax_trees.specs.declared.ast.Ast.{Ast}
use Rattle.syntax_trees.specs.Places.{row_of}
use Rattle.term_model.specs.declared.focus.Bound.{Bound}
use Rattle.term_model.specs.declared.focus.Focus.TheVariants as focus
use Rattle.term_model.specs.declared.focus.Origin.{Origin}
use Rattle.term_model.specs.declared.found.Found.{Found}
use Rattle.term_model.specs.declared.found.Found.TheVariants.{Here}
use Rattle.term_model.specs.declared.kept.Bring.TheVariants as bring
use Rattle.term_model.specs.declared.kept.Outcome.TheVariants as outcome
use Rattle.term_model.specs.declared.plain.Plain.{Plain}
use Rattle.term_model.specs.declared.plain.Plain.TheVariants as plain
use Rattle.term_model.specs.declared.restart.Restart.{Restart}
use Rattle.lisp_data.specs.Parts.{nil}
use Rattle.term_model.specs.GoingIn.{look}
use Rattle.term_model.specs.Levels.{Framed, Level, Called, Served, Shown, current_level, frames, locals, served_form}
use Rattle.term_model.specs.Restarts.{first_named, invoking, nothing_at, restarts_of_level}
use Rattle.step_model.specs.Act.{Act, Goes, Gives, Raises, Exits, Closes, Writes, Changes, Inspects}
use Rattle.step_model.specs.CurrentPackage.{package_variable}
use Rattle.step_model.specs.Functions.{exits_or, with_tree}
use Rattle.step_model.specs.Image.{with_global, with_packages}
use Rattle.step_model.specs.Kinds.{current, gives_value, or_raise, or_refuse}
use Rattle.step_model.specs.Now.{Now}
use Rattle.step_model.specs.Roles.{Role, Form, Definition, TestClause, HandlerClause, RestartClause, role_of}
use Rattle.step_model.specs.Rules.{Asked, Command, Answers, AnswersIn, Refuses, Evaluates, EvaluatesIn, EvaluatesToReturn, CallsAgain, InvokesNth, InvokesFirst, InvokesTop, Finish, Replies, Fails, LeavesFrame}
use Rattle.step_model.specs.Rules as rules

-- NIL as a reply
abbrev pub nil_reply : Act
nil_reply = Gives (outcome.Reply (form.List []))

-- what the function of the nearest request sees
abbrev pub asked : Now → Asked
asked n = record {
  form = unwrap_or (served_form n.context) (form.List []);
  context = n.context;
  current = current n;
  image = n.image;
  inspected = n.inspected;
  threads = n.threads;
}

-- ---- levels and their frames

-- what is done with the current level, NIL where there is none
abbrev pub in_level : Option Level → (Level → Act) → Act
in_level (Some level) act = act level
in_level None act = nil_reply

-- an item by an integer from 0
abbrev pub item_at : {A : Type 0} → List A → ℤ → Option A
item_at xs (pos i) = slice_get xs i
item_at xs (negsuc i) = None

abbrev pub in_frame : Option Framed → (Framed → Act) → Act
in_frame (Some f) act = act f
in_frame None act = nil_reply

-- what is done with a frame of the current level, NIL where it has none of that number
abbrev pub with_frame : Now → ℤ → (Framed → Act) → Act
with_frame n i act = in_level (current_level n.context) (λ level. in_frame (item_at (frames level.around) i) act)

-- copies of a frame's variables, the innermost inside
abbrev pub copied : List Bound → List Plain
copied [] = []
copied (b ∷ bs) = copied bs ++ plain.Lexical b.variable b.value ∷ []

-- forms, in the layer that makes the reply, without and with the variables of a frame
abbrev pub evaluates : List Placed → Option Origin → Sexp → Act
evaluates forms origin kept = Goes (plain.Answer kept ∷ []) (Here (focus.Forms forms origin))

abbrev pub evaluates_in : List Placed → Sexp → Framed → Act
evaluates_in forms kept f = Goes (plain.Answer kept ∷ plain.Eval ∷ copied (locals f)) (Here (focus.Forms forms None))

-- the same of a text, where it reads
abbrev pub evaluates_read : Result (List Placed) Condition → Sexp → Framed → Act
evaluates_read read kept f = or_raise read (λ forms. evaluates_in forms kept f)

-- only a call may be left or called again
abbrev pub if_call : Shown → Act → Act
if_call (Called g vs) act = act
if_call (Served request) act = nil_reply

abbrev pub leaves_frame : Value → Framed → Act
leaves_frame v f = if_call f.shown (Exits (record { target = f.layer; bring = bring.Value v }))

abbrev pub calls_frame : Framed → Act
calls_frame f = if_call f.shown (Exits (record { target = f.layer; bring = bring.Call }))

-- ---- restarts of a level

abbrev pub invokes_restart : Now → Option Restart → Act
invokes_restart n r = exits_or (invoking r [] n.context) nil_reply

-- whether an integer is this number
abbrev pub is_number : ℤ → ℕ → Bool
is_number (pos a) b = a == b
is_number (negsuc a) b = false

abbrev pub invokes_place : Now → Level → ℤ → Bool → Act
invokes_place n level i true = invokes_restart n (item_at (restarts_of_level level.around) i)
invokes_place n level i false = nil_reply

-- the restart at a place of the current level, whose number has to be the one that is given
abbrev pub invokes_nth : Now → ℤ → ℤ → Act
invokes_nth n k i = in_level (current_level n.context) (λ level. invokes_place n level i (is_number k level.number))

-- the first restart of a name
abbrev pub invokes_first : Now → Symbol → Act
invokes_first n name = in_level (current_level n.context) (λ level. invokes_restart n (first_named name (restarts_of_level level.around)))

-- ---- the rows

-- what the request's function says is to be done
abbrev pub commanded : Now → Command → Act
commanded n (Answers inspected reply) = Inspects inspected (Gives (outcome.Reply reply))
commanded n (AnswersIn name reply) = Changes (with_global n.image package_variable name) (Gives (outcome.Reply reply))
commanded n (Refuses condition) = Raises condition
commanded n (Evaluates forms origin kept) = evaluates forms origin kept
commanded n (EvaluatesIn i read kept) = with_frame n i (evaluates_read read kept)
commanded n (EvaluatesToReturn i read kept) = with_frame n i (λ f. if_call f.shown (evaluates_read read kept f))
commanded n (CallsAgain i) = with_frame n i calls_frame
commanded n (InvokesNth k i) = invokes_nth n k i
commanded n (InvokesFirst name) = invokes_first n name
commanded n InvokesTop = Exits (nothing_at 0)
commanded n rules.Closes = Closes

-- the reply that the value of a request's forms makes
abbrev pub finished : Now → Value → Finish → Act
finished n v (Replies writings inspected reply) = Writes writings (Inspects inspected (Gives (outcome.Reply reply)))
finished n v (Fails condition) = Raises condition
finished n v (LeavesFrame i) = with_frame n i (leaves_frame v)

-- a function's definition in a compiled text has its place there
abbrev pub placed_found : Ast → Role → Option Origin → ℕ → Found
placed_found a (Definition g ps) (Some origin) at = Here (focus.DefunAt a origin at)
placed_found a (Definition g ps) None at = look a
placed_found a (HandlerClause x) origin at = look a
placed_found a (RestartClause name parameters report) origin at = look a
placed_found a TestClause origin at = look a
placed_found a Form origin at = look a

-- the first of these forms stands before the others
abbrev pub before_forms : List Placed → Option Origin → List Plain
before_forms [] origin = []
before_forms (p ∷ ps) origin = plain.Before (focus.Forms (p ∷ ps) origin) ∷ []

-- a form of a text, as it was resolved: its symbols may be new in the packages
abbrev pub resolved : Now → Placed → List Placed → Option Origin → List Package × Value → Act
resolved n p ps origin found =
    Changes (with_packages n.image found.0)
    (with_tree n (parsed found.1) (λ e. Goes (before_forms ps origin) (placed_found e (role_of (row_of e)) origin p.at)))

-- the forms of a text: the first is resolved in the current package and parsed
abbrev pub forms_row : Now → List Placed → Option Origin → Act
forms_row n [] origin = gives_value nil
forms_row n (p ∷ ps) origin =
    or_refuse (in_named n.image.packages (current n) (λ i. valued i p.form n.image.packages)) (resolved n p ps origin)
