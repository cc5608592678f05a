-- The table of steps: one line a redex.
use Rattle.std.specs.Prelude.{ℕ, ◌==◌, Bool, List, [], ◌∷◌, ◌++◌, Option, Some, None, codes}
use Rattle.std.specs.List.{before_first}
use Rattle.lisp_data.specs.declared.value.Value.{Value}
use Rattle.lisp_data.specs.declared.value.Value as value
use Rattle.lisp_data.specs.declared.value.Value.TheOpen.{Value-F}
use Rattle.lisp_data.specs.declared.value.Value.TheViews.{out-Value}
use Rattle.lisp_data.specs.declared.value.Condition.{Condition}
use Rattle.syntax_trees.specs.Places.{row_of, forms_of}
use Rattle.syntax_trees.specs.declared.ast.Ast.{Ast}
use Rattle.term_model.specs.declared.focus.Focus.{Focus}
use Rattle.term_model.specs.declared.focus.Focus.TheVariants as focus
use Rattle.term_model.specs.declared.focus.Origin.{Origin}
use Rattle.term_model.specs.declared.found.Found.TheVariants.{Here}
use Rattle.term_model.specs.declared.frame.Frame.TheVariants as frame
use Rattle.term_model.specs.declared.kept.Bring.TheVariants as bring
use Rattle.term_model.specs.declared.kept.Outcome.{Outcome}
use Rattle.term_model.specs.declared.kept.Outcome.TheVariants as outcome
use Rattle.term_model.specs.declared.plain.Plain.TheVariants as plain
use Rattle.term_model.specs.declared.question.Ask.{Ask}
use Rattle.term_model.specs.declared.question.Ask.TheVariants as question
use Rattle.lisp_data.specs.Parts.{nil, yes}
use Rattle.term_model.specs.GoingIn.{look}
use Rattle.term_model.specs.Handlers.{How, HandlerAt, behind, find_handler, in_force}
use Rattle.term_model.specs.Handlers as how
use Rattle.term_model.specs.Restarts.{abort_exit}
use Rattle.term_model.specs.Term.{Context}
use Rattle.step_model.specs.Act.{Act, Goes, Gives, Resumes, Passes, Opens, Breaks, Exits, Takes, Outward}
use Rattle.step_model.specs.Decision.{Decision, Alone, Beyond, decided, decided_alone}
use Rattle.step_model.specs.Forms.{call, counts, defines, form_row, lists, loops}
use Rattle.step_model.specs.Functions.{maps}
use Rattle.step_model.specs.Kinds.{gives_made, gives_value, prints}
use Rattle.step_model.specs.Now.{Now, around}
use Rattle.step_model.specs.Requests.{asked, commanded, finished, forms_row}
use Rattle.step_model.specs.Roles.{Role, Form, Definition, TestClause, HandlerClause, RestartClause, role_of}
use Rattle.step_model.specs.Rules.{Rules}

-- ---- parts of rows

-- what the handler that was found does: a function is called, and where it returns the search goes on behind it; a clause runs after an
-- exit to its form
abbrev pub handles : Condition → ℕ → ℕ → How → Act
handles c p j (how.Function g) = Goes (plain.Before (focus.SignalPast c p j) ∷ plain.Handling p j ∷ []) (Here (focus.Apply g (value.Cond c ∷ [])))
handles c p j how.Clause = Exits (record { target = p; bring = bring.Clause j (value.Cond c ∷ []) })

abbrev pub signals : Condition → Option HandlerAt → Act
signals c None = gives_value nil
signals c (Some h) = handles c h.layer h.index h.how

abbrev pub warning : Condition → List ℕ
warning c = codes "WARNING: " ++ c.message ++ 10 ∷ []

abbrev pub came_upon : Option Outcome → Outcome
came_upon (Some o) = o
came_upon None = outcome.Value nil

abbrev pub is_newline : ℕ → Bool
is_newline c = c == 10

-- the answer to a question: of a line, what stands before its first newline; of yes or no, whether it is true
abbrev pub answered : Ask → Value-F Value Condition → Value
answered question.String (Value-F.Str text) = value.Str (before_first is_newline text)
answered question.String (Value-F.Int z) = nil
answered question.String (Value-F.Sym s) = nil
answered question.String (Value-F.List vs) = nil
answered question.String (Value-F.Cond condition) = nil
answered question.YesNo (Value-F.List []) = nil
answered question.YesNo _ = yes

-- an outcome in what is directly around it: what was put off comes next, the reply is made of a value, another marker passes the outcome on,
-- a question has its answer, and a protected form, a cleanup and a request have their outcome
abbrev pub given_row : Rules → Context → Outcome → Decision
given_row rules (frame.On (plain.Before f) ∷ c) o = Alone (Outward (Resumes f))
given_row rules (frame.On (plain.Answer kept) ∷ c) (outcome.Value v) = Beyond (λ n. Outward (finished (around n c) v (rules.finish (asked (around n c)) kept v)))
given_row rules (frame.On (plain.Answer kept) ∷ c) (outcome.Reply r) = Alone (Outward (Gives (outcome.Reply r)))
given_row rules (frame.On (plain.Form p) ∷ c) o = Alone (Outward (Gives o))
given_row rules (frame.On (plain.Map f list next collected) ∷ c) o = Alone (Outward (Gives o))
given_row rules (frame.On (plain.Call f vs) ∷ c) o = Alone (Outward (Gives o))
given_row rules (frame.On plain.Eval ∷ c) o = Alone (Outward (Gives o))
given_row rules (frame.On (plain.Lexical x w) ∷ c) o = Alone (Outward (Gives o))
given_row rules (frame.On (plain.Dynamic x w) ∷ c) o = Alone (Outward (Gives o))
given_row rules (frame.On (plain.Block name) ∷ c) o = Alone (Outward (Gives o))
given_row rules (frame.On (plain.Catch tag) ∷ c) o = Alone (Outward (Gives o))
given_row rules (frame.On (plain.Handlers cluster) ∷ c) o = Alone (Outward (Gives o))
given_row rules (frame.On (plain.Restarts offers) ∷ c) o = Alone (Outward (Gives o))
given_row rules (frame.On (plain.Handling p j) ∷ c) o = Alone (Outward (Gives o))
given_row rules (frame.Ask kind tag ∷ c) (outcome.Value v) = Beyond (λ n. Outward (gives_made (answered kind (out-Value v))))
given_row rules (frame.Ask kind tag ∷ c) (outcome.Reply r) = Beyond (λ n. Outward (Gives (outcome.Reply r)))
given_row rules (frame.Protect k cleanup ∷ c) o = Beyond (λ n. Passes o)
given_row rules (frame.Cleanup k kept ∷ c) o = Beyond (λ n. Passes o)
given_row rules (frame.Rex at id form ∷ c) o = Beyond (λ n. Passes o)
given_row rules (frame.Sldb level condition again ∷ c) o = Beyond (λ n. Passes o)
given_row rules [] o = Beyond (λ n. Passes o)

-- a node with a place: only a function's definition keeps it
abbrev pub defun_at : Now → Ast → Role → Origin → ℕ → Act
defun_at n a (Definition g ps) origin at = defines n g ps (forms_of a) (Some (record { buffer = origin.buffer; position = origin.position; offset = at }))
defun_at n a (HandlerClause x) origin at = Goes [] (look a)
defun_at n a (RestartClause name parameters report) origin at = Goes [] (look a)
defun_at n a TestClause origin at = Goes [] (look a)
defun_at n a Form origin at = Goes [] (look a)

-- ---- the table

abbrev pub decide : Rules → Context → Focus → Decision
-- a marker with an outcome
decide rules c (focus.Given o) = given_row rules c o
-- a form whose parts are evaluated
decide rules c (focus.Form p) = form_row c p
-- a turn of a loop
decide rules c (focus.Loop es) = Alone (loops es)
decide rules c (focus.DoTimes x i count es) = counts x i count es
decide rules c (focus.DoList x i list es) = lists x i list es
-- a function with its place
decide rules c (focus.DefunAt a origin at) = Beyond (λ n. defun_at n a (role_of (row_of a)) origin at)
-- calls
decide rules c (focus.Apply g vs) = call g vs
decide rules c (focus.Map g list next collected) = Beyond (λ n. maps g list next collected)
-- a message
decide rules c (focus.Wait p) = Beyond (λ n. Takes p)
-- interrupts, signals and the debugger
decide rules c (focus.Break o) = Beyond (λ n. Breaks (came_upon o))
decide rules c focus.Abort = Beyond (λ n. Exits (abort_exit n.context))
decide rules c (focus.Signal condition) = Beyond (λ n. signals condition (find_handler condition.kind (in_force n.context)))
decide rules c (focus.SignalPast condition p j) = Beyond (λ n. signals condition (find_handler condition.kind (behind p j (in_force n.context))))
decide rules c (focus.Enter condition) = Beyond (λ n. Opens condition)
decide rules c (focus.Warn condition) = Beyond (λ n. prints (warning condition) nil)
-- requests
decide rules c focus.Rpc = Beyond (λ n. commanded n (rules.command (asked n)))
decide rules c (focus.Forms forms origin) = Beyond (λ n. forms_row n forms origin)

-- the row of a redex
abbrev pub row : Rules → Now → Focus → Act
row rules n f = decided n (decide rules n.context f)

-- the same, where the thread's term alone decides it
abbrev pub alone : Rules → Context → Focus → Option Act
alone rules c f = decided_alone (decide rules c f)
