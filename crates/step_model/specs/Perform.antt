-- What each act makes of a thread.
use Rattle.std.specs.Prelude.{ℕ, ℤ, zero, suc, ◌+◌, Bool, true, false, List, [], ◌∷◌, map, Option, Some, None, slice_get, unwrap_or, codes}
use Rattle.lisp_data.specs.declared.sexp.Sexp.{Sexp}
use Rattle.lisp_data.specs.declared.sexp.Sexp.TheOpen.{Sexp-F}
use Rattle.lisp_data.specs.declared.sexp.Sexp.TheViews.{out-Sexp}
use Rattle.lisp_data.specs.declared.symbol.Symbol.{Symbol}
use Rattle.lisp_data.specs.declared.value.Value.{Value}
use Rattle.lisp_data.specs.declared.value.Value as value
use Rattle.lisp_data.specs.declared.value.Condition.{Condition}
use Rattle.lisp_data.specs.declared.type_id.TypeId.TheVariants as type
use Rattle.lisp_errors.specs.Causes.{stack_exhausted}
use Rattle.lisp_errors.specs.Texts.{without_datum}
use Rattle.mailboxes.specs.Mail.{first_accepted, without_accepted}
use Rattle.rpc_messages.specs.declared.from_emacs.FromEmacs.{FromEmacs}
use Rattle.rpc_messages.specs.declared.from_emacs.FromEmacs.TheVariants as mail
use Rattle.rpc_messages.specs.declared.pattern.Pattern.{Pattern}
use Rattle.rpc_messages.specs.declared.pattern.Pattern.TheVariants as pattern
use Rattle.rpc_messages.specs.declared.to_emacs.Returned.TheVariants as returned
use Rattle.rpc_messages.specs.declared.to_emacs.ToEmacs.{ToEmacs}
use Rattle.rpc_messages.specs.declared.to_emacs.ToEmacs.TheVariants as message
use Rattle.syntax_trees.specs.declared.ast.Ast.{Ast}
use Rattle.syntax_trees.specs.Places.{row_of, forms_of}
use Rattle.lisp_data.specs.Symbols.{cl}
use Rattle.term_model.specs.declared.end.End.{End}
use Rattle.term_model.specs.declared.end.End.TheVariants as end
use Rattle.term_model.specs.declared.focus.Focus.{Focus}
use Rattle.term_model.specs.declared.focus.Focus.TheVariants as focus
use Rattle.term_model.specs.declared.found.Found.{Found}
use Rattle.term_model.specs.declared.found.Found.TheVariants.{Already, Here}
use Rattle.term_model.specs.declared.frame.Frame.{Frame}
use Rattle.term_model.specs.declared.frame.Frame.TheVariants as frame
use Rattle.term_model.specs.declared.kept.Bring.{Bring}
use Rattle.term_model.specs.declared.kept.Bring.TheVariants as bring
use Rattle.term_model.specs.declared.kept.Outcome.{Outcome}
use Rattle.term_model.specs.declared.kept.Outcome.TheVariants as outcome
use Rattle.term_model.specs.declared.kept.Saved.{Saved}
use Rattle.term_model.specs.declared.kept.Saved.TheVariants as saved
use Rattle.term_model.specs.declared.plain.Cluster.TheVariants.{Clauses, Ignoring}
use Rattle.term_model.specs.declared.plain.Plain.{Plain}
use Rattle.term_model.specs.declared.plain.Plain.TheVariants as plain
use Rattle.term_model.specs.declared.question.Ask.{Ask}
use Rattle.term_model.specs.declared.question.Ask.TheVariants as question
use Rattle.term_model.specs.declared.restart.Action.{Action}
use Rattle.term_model.specs.declared.restart.Action.TheVariants.{Give, Run}
use Rattle.term_model.specs.declared.restart.Offer.{Offer}
use Rattle.term_model.specs.Breaks.{may_open}
use Rattle.term_model.specs.Exit.{Left, distance, leave, stir}
use Rattle.lisp_data.specs.Parts.{nil}
use Rattle.term_model.specs.GoingIn.{body, look, resumed, value_in}
use Rattle.term_model.specs.Label.{Label, Took, Ended, Out, Opened, Cleanup}
use Rattle.term_model.specs.Restarts.{abort_exit}
use Rattle.term_model.specs.Room.{is_within, levels, room, wrap}
use Rattle.term_model.specs.Search.{layer_at}
use Rattle.term_model.specs.Term.{Context}
use Rattle.term_model.specs.Variables.{with_dynamic, with_lexical}
use Rattle.step_model.specs.Act.{Act, Ends, Outward, Writes, Changes, Inspects, Assigns, Sets}
use Rattle.step_model.specs.Announcing.{announcement}
use Rattle.step_model.specs.CurrentPackage.{package_variable, binds_package, bound_package}
use Rattle.step_model.specs.Image.{with_global}
use Rattle.step_model.specs.Now.{Now, around, puts, tells}
use Rattle.step_model.specs.Roles.{Role, Form, Definition, TestClause, HandlerClause, RestartClause, role_of}
use Rattle.step_model.specs.Rules.{Writing, Output, NewPackage}

-- ---- going on inside a context

-- the next level of the debugger, on this condition
abbrev pub opens : Now → Condition → Now
opens n condition =
    let k = levels n.context + 1 in
    tells (puts n (frame.Sldb k condition false ∷ n.context) (focus.Wait pattern.Rex)) (Opened n.thread k ∷ announcement n k condition n.context)

-- where there is no room for a layer: the debugger, or leaving where no level may be opened
abbrev pub exhausted_if : Bool → Now → Now
exhausted_if true n = opens n stack_exhausted
exhausted_if false n = puts n n.context focus.Abort

abbrev pub exhausted : Now → Now
exhausted n = exhausted_if (may_open n.most n.context) n

abbrev pub laid : Now → Option Focus → Now
laid n (Some f) = puts n n.context f
laid n None = exhausted n

-- without the layer that is past the limit: the cleanup of a form that was protected there as a value
abbrev pub cut_off : Context → Context
cut_off (frame.Cleanup k kept ∷ c) = c
cut_off c = c

abbrev pub lays_if : Bool → Now → List Plain → Found → Now
lays_if true n ps found = let e = wrap (room n.context) n.context ps found in laid (around n e.around) e.redex
lays_if false n ps found = exhausted (around n (cut_off n.context))

-- these markers and this form inside the context, as far as there is room
abbrev pub lays : Now → List Plain → Found → Now
lays n ps found = lays_if (is_within n.context) n ps found

abbrev pub given : Now → Plain → Context → Value → Option Found → Now
given n p c v (Some found) = lays (around n c) [] found
given n p c v None = puts n (frame.On p ∷ c) (focus.Given (outcome.Value v))

-- an outcome for what is directly around: a form that waits for a value goes on with it, and any other layer has it as its redex
abbrev pub gives_in : Now → Context → Outcome → Now
gives_in n (frame.On p ∷ c) (outcome.Value v) = given n p c v (resumed p v)
gives_in n (frame.On p ∷ c) (outcome.Reply r) = puts n (frame.On p ∷ c) (focus.Given (outcome.Reply r))
gives_in n (frame.Protect k cleanup ∷ c) o = puts n (frame.Protect k cleanup ∷ c) (focus.Given o)
gives_in n (frame.Cleanup k kept ∷ c) o = puts n (frame.Cleanup k kept ∷ c) (focus.Given o)
gives_in n (frame.Rex i id form ∷ c) o = puts n (frame.Rex i id form ∷ c) (focus.Given o)
gives_in n (frame.Sldb k condition again ∷ c) o = puts n (frame.Sldb k condition again ∷ c) (focus.Given o)
gives_in n (frame.Ask kind tag ∷ c) o = puts n (frame.Ask kind tag ∷ c) (focus.Given o)
gives_in n [] o = puts n [] (focus.Given o)

abbrev pub gives : Now → Outcome → Now
gives n o = gives_in n n.context o

abbrev pub goes : Now → List Plain → Found → Now
goes n [] (Already v) = gives n (outcome.Value v)
goes n ps found = lays n ps found

-- ---- exits

abbrev pub nil_or : Option Value → Value
nil_or o = unwrap_or o nil

-- the bindings of a clause's parameters: missing arguments are NIL, further ones are dropped
abbrev pub parameters_bound : List Symbol → List Value → List Plain
parameters_bound [] vs = []
parameters_bound (x ∷ xs) [] = plain.Lexical x nil ∷ parameters_bound xs []
parameters_bound (x ∷ xs) (v ∷ vs) = plain.Lexical x v ∷ parameters_bound xs vs

abbrev pub condition_bound : Option Symbol → List Value → List Plain
condition_bound None vs = []
condition_bound (Some x) vs = plain.Lexical x (nil_or (slice_get vs 0)) ∷ []

-- the bindings of a clause of `handler-case` and of one of `restart-case`; every other node has none
abbrev pub clause_bound : Role → List Value → List Plain
clause_bound (HandlerClause x) vs = condition_bound x vs
clause_bound (RestartClause name parameters report) vs = parameters_bound parameters vs
clause_bound (Definition name parameters) vs = []
clause_bound TestClause vs = []
clause_bound Form vs = []

-- the body of a clause, inside the bindings of its parameters
abbrev pub runs : Now → Ast → List Value → Now
runs n clause vs = goes n (clause_bound (role_of (row_of clause)) vs) (body (forms_of clause))

abbrev pub runs_handler : Now → Option Ast → List Value → Now
runs_handler n None vs = goes n [] (Already nil)
runs_handler n (Some clause) vs = runs n clause vs

abbrev pub runs_action : Now → Action → List Value → Now
runs_action n (Give o) vs = gives n o
runs_action n (Run clause) vs = runs n clause vs

abbrev pub runs_offer : Now → Option Offer → List Value → Now
runs_offer n None vs = goes n [] (Already nil)
runs_offer n (Some offer) vs = runs_action n offer.action vs

-- the clause of this number of the exit's target, in its place; the one of `ignore-errors` gives NIL. An exit to a clause leads to a layer
-- that has it (`HasClause`): so there is a clause of that number, and the last line never comes up
abbrev pub runs_clause : Now → Option Frame → ℕ → List Value → Now
runs_clause n (Some (frame.On (plain.Handlers (Clauses clauses)))) i vs = runs_handler n (slice_get clauses i) vs
runs_clause n (Some (frame.On (plain.Handlers Ignoring))) i vs = goes n [] (Already nil)
runs_clause n (Some (frame.On (plain.Restarts offers))) i vs = runs_offer n (slice_get offers i) vs
runs_clause n _ i vs = goes n [] (Already nil)

-- the call of the exit's target once more, in its place
abbrev pub calls_again : Now → Option Frame → Now
calls_again n (Some (frame.On (plain.Call f vs))) = goes n [] (Here (focus.Apply f vs))
calls_again n _ = goes n [] (Already nil)

abbrev pub is_top : Context → Bool
is_top [] = true
is_top (_ ∷ _) = false

-- what an exit brings to the target that it reached
abbrev pub brings : Now → Bring → Option Frame → Now
brings n (bring.Value v) target = gives n (outcome.Value v)
brings n (bring.Reply r) target = gives n (outcome.Reply r)
brings n (bring.Clause i vs) target = runs_clause n target i vs
brings n bring.Call target = calls_again n target
brings n bring.Nothing target = record (puts n n.context (focus.Wait pattern.Rex)) { over = is_top n.context }

-- a cleanup that the exit met runs first
abbrev pub lands : Now → Bring → Option Frame → Option (List Ast) → Now
lands n b target (Some cleanup) = goes n [] (body cleanup)
lands n b target None = brings n b target

abbrev pub after_leaving : Now → Left → Now
after_leaving n left = tells (around n (stir left.stirred left.around)) left.labels

abbrev pub exits : Now → ℕ → Bring → Now
exits n target b =
    let left = leave n.thread (saved.Exit target b) (distance target n.context) n.context in
    lands (after_leaving n left) b (layer_at target n.context) left.todo

-- ---- acts

-- entering the debugger; with as many levels open as there may be, leaving by the innermost visible ABORT
abbrev pub enters_if : Bool → Now → Condition → Now
enters_if true n condition = opens n condition
enters_if false n condition = let x = abort_exit n.context in exits n x.target x.bring

abbrev pub enters : Now → Condition → Now
enters n condition = enters_if (may_open n.most n.context) n condition

abbrev pub interrupted : Condition
interrupted = without_datum type.SimpleCondition (codes "Interrupt from Emacs")

abbrev pub continue : Symbol
continue = cl (codes "CONTINUE")

-- the restart of an interrupt, which brings back what the interrupt came upon
abbrev pub continuing : Outcome → Offer
continuing o = record { name = continue; text = codes "Continue from interrupt."; action = Give o }

-- inside that restart
abbrev pub offering : Now → Outcome → Now
offering n o = around n (frame.On (plain.Restarts (continuing o ∷ [])) ∷ n.context)

abbrev pub breaks_if : Bool → Now → Outcome → Now
breaks_if true n o = opens (offering n o) interrupted
breaks_if false n o = let x = abort_exit n.context in exits n x.target x.bring

abbrev pub finishes : Now → Saved → Now
finishes n (saved.Kept o) = gives n o
finishes n (saved.Exit target b) = exits n target b

abbrev pub ends : Now → Context → ℕ → ℤ → Sexp → Now
ends n c i id reply =
    record (tells (puts n c (focus.Wait pattern.Rex)) (Ended n.thread i (returned.Ok reply) ∷ Out (message.Return id (returned.Ok reply)) ∷ [])) { over = is_top c }

-- the cleanup of a protected form begins, and keeps the form's outcome
abbrev pub turned : Now → ℕ → Outcome → Context → Now
turned n k o c = tells (around n (frame.Cleanup k (saved.Kept o) ∷ c)) (Cleanup n.thread k ∷ [])

-- the outcome of a protected form, a cleanup or a request
abbrev pub passes : Now → Context → Outcome → Now
passes n (frame.Protect k cleanup ∷ c) o = goes (turned n k o c) [] (body cleanup)
passes n (frame.Cleanup k kept ∷ c) o = finishes (around n c) kept
passes n (frame.Rex i id form ∷ c) (outcome.Reply r) = ends n c i id r
passes n (frame.Rex i id form ∷ c) (outcome.Value v) = puts n (frame.Rex i id form ∷ c) (focus.Given (outcome.Value v))
passes n (frame.Sldb k condition again ∷ c) o = puts n (frame.Sldb k condition again ∷ c) (focus.Given o)
passes n (frame.On p ∷ c) o = puts n (frame.On p ∷ c) (focus.Given o)
passes n (frame.Ask kind tag ∷ c) o = puts n (frame.Ask kind tag ∷ c) (focus.Given o)
passes n [] o = puts n [] (focus.Given o)

-- where there is no room for a layer, a protected value still is a redex
abbrev pub protects_value : Now → Option Value → List Ast → Now
protects_value n (Some v) cleanup = puts (record n { serial = n.serial + 1 }) (frame.Protect n.serial cleanup ∷ n.context) (focus.Given (outcome.Value v))
protects_value n None cleanup = exhausted n

abbrev pub protects : Now → ℕ → Ast → List Ast → Now
protects n zero e cleanup = protects_value n (value_in e) cleanup
protects n (suc space) e cleanup = goes (around (record n { serial = n.serial + 1 }) (frame.Protect n.serial cleanup ∷ n.context)) [] (look e)

-- what asking writes, and what the question then waits for
abbrev pub asking : Ask → ℕ → ℕ → List ℕ → ToEmacs
asking question.String t tag text = message.ReadString t tag
asking question.YesNo t tag text = message.YesNo t tag text

abbrev pub awaited : Ask → ℕ → Pattern
awaited question.String tag = pattern.StringFor tag
awaited question.YesNo tag = pattern.ValueFor tag

abbrev pub asks : Now → ℕ → Ask → List ℕ → Now
asks n zero kind text = exhausted n
asks n (suc space) kind text =
    tells (puts (record n { tag = n.tag + 1 }) (frame.Ask kind n.tag ∷ n.context) (focus.Wait (awaited kind n.tag))) (Out (asking kind n.thread n.tag text) ∷ [])

-- the value that the answer to a question gives
abbrev pub answer_in : Sexp-F Sexp → Value
answer_in (Sexp-F.Str text) = value.Str text
answer_in (Sexp-F.Int z) = value.Int z
answer_in (Sexp-F.List []) = nil
answer_in _ = value.Sym (cl (codes "T"))

-- the binding of a request's package
abbrev pub package_bound : Bool → Value → List Plain
package_bound true v = plain.Dynamic package_variable v ∷ []
package_bound false v = []

-- a request is served inside its layer and the binding of its package
abbrev pub begins : Now → ℕ → ℤ → Sexp → Bool → Value → Now
begins n i id form b v = lays (around n (frame.Rex i id form ∷ n.context)) (package_bound b v) (Here focus.Rpc)

-- a message: a request is served inside its layer, and an answer gives its value. No other message is accepted
abbrev pub takes_mail : Now → ℕ → FromEmacs → Now
takes_mail n i (mail.Rex form «package» thread id) = begins n i id form (binds_package form) (bound_package n.image «package»)
takes_mail n i (mail.ReturnString thread tag text) = gives n (outcome.Value (value.Str text))
takes_mail n i (mail.Return thread tag form) = gives n (outcome.Value (answer_in (out-Sexp form)))
takes_mail n i (mail.Interrupt thread) = n
takes_mail n i (mail.Unreadable packet text) = n

abbrev pub took : Now → Pattern → ℕ → Now
took n p i = tells (record n { mailbox = without_accepted p n.mailbox }) (Took n.thread i p ∷ [])

abbrev pub takes : Now → Pattern → Option (ℕ × FromEmacs) → Now
takes n p None = puts n n.context (focus.Wait p)
takes n p (Some m) = takes_mail (took n p m.0) m.0 m.1

-- without the plain layer or the question that is directly around
abbrev pub outward : Context → Context
outward (frame.On p ∷ c) = c
outward (frame.Ask kind tag ∷ c) = c
outward (frame.Protect k cleanup ∷ c) = frame.Protect k cleanup ∷ c
outward (frame.Cleanup k kept ∷ c) = frame.Cleanup k kept ∷ c
outward (frame.Rex i id form ∷ c) = frame.Rex i id form ∷ c
outward (frame.Sldb k condition again ∷ c) = frame.Sldb k condition again ∷ c
outward [] = []

abbrev pub written : Writing → Label
written (Output text repl_result) = Out (message.WriteString text repl_result)
written (NewPackage name prompt) = Out (message.NewPackage name prompt)

-- with the variable's newest dynamic value, else its global one, changed
abbrev pub sets_or : Now → Symbol → Value → Option Context → Now
sets_or n s v (Some c) = around n c
sets_or n s v None = record n { image = with_global n.image s v }

abbrev pub sets : Now → Symbol → Value → Now
sets n s v = sets_or n s v (with_dynamic s v n.context)

abbrev pub assigns_or : Now → Symbol → Value → Option Context → Now
assigns_or n s v (Some c) = around n c
assigns_or n s v None = sets n s v

abbrev pub assigns : Now → Symbol → Value → Now
assigns n s v = assigns_or n s v (with_lexical s v n.context)

-- what an end makes of it
abbrev pub carried : Now → End → Now
carried n (end.Goes ps found) = goes n ps found
carried n (end.Gives o) = gives n o
carried n (end.Raises condition) = lays n (plain.Before (focus.Enter condition) ∷ []) (Here (focus.Signal condition))
carried n (end.Resumes f) = puts n n.context f
carried n (end.Passes o) = passes n n.context o
carried n (end.Protects e cleanup) = protects n (room n.context) e cleanup
carried n (end.Asks kind text) = asks n (room n.context) kind text
carried n (end.Opens condition) = enters n condition
carried n (end.Breaks o) = breaks_if (may_open n.most n.context) n o
carried n (end.Exits x) = exits n x.target x.bring
carried n (end.Takes p) = takes n p (first_accepted p n.mailbox)
carried n end.Closes = record (puts n n.context focus.Rpc) { closed = true }

abbrev pub perform : Now → Act → Now
perform n (Ends e) = carried n e
perform n (Outward act) = perform (around n (outward n.context)) act
perform n (Writes ws act) = perform (tells n (map written ws)) act
perform n (Changes image act) = perform (record n { image = image }) act
perform n (Inspects vs act) = perform (record n { inspected = vs }) act
perform n (Assigns s v act) = perform (assigns n s v) act
perform n (Sets s v act) = perform (sets n s v) act
