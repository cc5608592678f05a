-- What runs at the target of an exit, which is looked at before the target is left.
use Rattle.std.specs.Prelude.{ℕ, List, [], Option, Some, None, slice_get}
use Rattle.lisp_data.specs.declared.value.Value.{Value}
use Rattle.lisp_data.specs.Parts.{nil}
use Rattle.rpc_messages.specs.declared.pattern.Pattern.TheVariants as pattern
use Rattle.step_model.specs.Now.{Now, puts}
use Rattle.step_model.specs.Perform.{gives, goes, is_top, runs}
use Rattle.syntax_trees.specs.declared.ast.Ast.{Ast}
use Rattle.term_model.specs.declared.focus.Focus.TheVariants as focus
use Rattle.term_model.specs.declared.found.Found.TheVariants.{Already, Here}
use Rattle.term_model.specs.declared.frame.Frame.{Frame}
use Rattle.term_model.specs.declared.frame.Frame.TheVariants as frame
use Rattle.term_model.specs.declared.kept.Bring.{Bring}
use Rattle.term_model.specs.declared.kept.Bring.TheVariants as bring
use Rattle.term_model.specs.declared.kept.Outcome.TheVariants as outcome
use Rattle.term_model.specs.declared.plain.Cluster.{Cluster}
use Rattle.term_model.specs.declared.plain.Cluster.TheVariants.{Clauses, Functions, Ignoring}
use Rattle.term_model.specs.declared.plain.Plain.{Plain}
use Rattle.term_model.specs.declared.plain.Plain.TheVariants as plain
use Rattle.term_model.specs.declared.restart.Action.{Action}
use Rattle.term_model.specs.declared.restart.Action.TheVariants.{Give, Run}
use Rattle.term_model.specs.declared.restart.Offer.{Offer}
use Rattle.lisp_acts.specs.declared.runs.Runs.{Runs}
use Rattle.lisp_acts.specs.declared.runs.Runs.TheVariants as run

abbrev pub clause_in : Option Ast → Runs
clause_in None = run.Nothing
clause_in (Some clause) = run.Clause clause

abbrev pub action_in : Action → Runs
action_in (Give o) = run.Gives o
action_in (Run clause) = run.Clause clause

abbrev pub offer_in : Option Offer → Runs
offer_in None = run.Nothing
offer_in (Some offer) = action_in offer.action

abbrev pub cluster_in : Cluster → ℕ → Runs
cluster_in (Clauses clauses) i = clause_in (slice_get clauses i)
cluster_in Ignoring i = run.Nothing
cluster_in (Functions hs) i = run.Nothing

abbrev pub plain_in : Plain → ℕ → Runs
plain_in (plain.Handlers cluster) i = cluster_in cluster i
plain_in (plain.Restarts offers) i = offer_in (slice_get offers i)
plain_in _ i = run.Nothing

-- the clause of this number
abbrev pub clause_at : Option Frame → ℕ → Runs
clause_at (Some (frame.On p)) i = plain_in p i
clause_at _ i = run.Nothing

abbrev pub call_in : Plain → Runs
call_in (plain.Call f vs) = run.Calls f vs
call_in _ = run.Nothing

-- the call
abbrev pub call_at : Option Frame → Runs
call_at (Some (frame.On p)) = call_in p
call_at _ = run.Nothing

-- what an exit that brings this looks for there
abbrev pub run_at : Bring → Option Frame → Runs
run_at (bring.Clause i vs) target = clause_at target i
run_at bring.Call target = call_at target
run_at (bring.Value v) target = run.Nothing
run_at (bring.Reply r) target = run.Nothing
run_at bring.Nothing target = run.Nothing

-- the thread once that runs, with these arguments
abbrev pub run_by : Now → Runs → List Value → Now
run_by n run.Nothing vs = goes n [] (Already nil)
run_by n (run.Clause clause) vs = runs n clause vs
run_by n (run.Gives o) vs = gives n o
run_by n (run.Calls f args) vs = goes n [] (Here (focus.Apply f args))

-- the thread once what was brought stands in place of the target
abbrev pub brought : Now → Bring → Runs → Now
brought n (bring.Value v) r = gives n (outcome.Value v)
brought n (bring.Reply form) r = gives n (outcome.Reply form)
brought n (bring.Clause i vs) r = run_by n r vs
brought n bring.Call r = run_by n r []
brought n bring.Nothing r = record (puts n n.context (focus.Wait pattern.Rex)) { over = is_top n.context }
