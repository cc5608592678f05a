-- An exit, by what it dropped and how it goes on.
use Rattle.std.proofs.Common.{◌≡◌, ℕ, zero, suc, Bool, true, false, List, [], ◌∷◌, ◌++◌, Option, Some, None, refl, sym, ap, ◌∙◌, append-nil, arith}
use Rattle.std.specs.Prelude.{slice_get}
use Rattle.lisp_control.specs.Leaving.{IsBrought, all_labels, begun_of, left_behind, todo_of}
use Rattle.lisp_control.specs.declared.left.Left.{Left}
use Rattle.lisp_control.specs.declared.left.Next.{Next}
use Rattle.lisp_control.specs.declared.left.Next.TheVariants as next
use Rattle.lisp_data.specs.declared.value.Value.{Value}
use Rattle.lisp_frames.specs.Stack.{StackState, with_context}
use Rattle.step_model.specs.Now.{Now, around, tells}
use Rattle.step_model.specs.Perform.{after_leaving, brings, calls_again, exits, lands, runs_action, runs_clause, runs_handler, runs_offer}
use Rattle.syntax_trees.specs.declared.ast.Ast.{Ast}
use Rattle.term_model.proofs.Messages.{messages_in-append}
use Rattle.term_model.specs.Exit as exit
use Rattle.term_model.specs.Exit.{again, distance, leave, stir}
use Rattle.term_model.specs.Label.{messages_in}
use Rattle.term_model.specs.Room.{levels}
use Rattle.term_model.specs.Search.{layer_at}
use Rattle.term_model.specs.Term.{Context}
use Rattle.term_model.specs.declared.frame.Frame.{Frame}
use Rattle.term_model.specs.declared.frame.Frame.TheVariants as frame
use Rattle.term_model.specs.declared.kept.Bring.{Bring}
use Rattle.term_model.specs.declared.kept.Bring.TheVariants as bring
use Rattle.term_model.specs.declared.kept.Leaving.{Leaving}
use Rattle.term_model.specs.declared.kept.Saved.{Saved}
use Rattle.term_model.specs.declared.kept.Saved.TheVariants as saved
use Rattle.term_model.specs.declared.plain.Cluster.TheVariants.{Clauses}
use Rattle.term_model.specs.declared.plain.Plain.TheVariants as plain
use Rattle.term_model.specs.declared.restart.Action.{Action}
use Rattle.term_model.specs.declared.restart.Action.TheVariants.{Give, Run}
use Rattle.term_model.specs.declared.restart.Offer.{Offer}
use Rattle.lisp_acts.specs.Amid.{Rest, amid, telling}
use Rattle.lisp_acts.specs.Exits.{dropped, landed}
use Rattle.lisp_acts.specs.Runs.{action_in, brought, call_at, clause_at, clause_in, offer_in, run_at, run_by}
use Rattle.lisp_acts.specs.declared.runs.Runs.{Runs}

-- ---- what is told

begun_silent : (t : ℕ) (n : Next) → messages_in (begun_of t n) ≡ []
begun_silent t (next.Arrives b) = refl
begun_silent t (next.Cleans k cleanup) = refl

-- a cleanup that begins is told of, but nothing is written
pub told : (t : ℕ) (x : Leaving) (c d : Context) (left : Left) → exit.Left.labels (left_behind t d left) ≡ dropped t x c → messages_in (all_labels t left.passed) ≡ messages_in (dropped t x c)
told t x c d left e =
    sym (append-nil (messages_in (all_labels t left.passed)))
    ∙ ap (λ ms. messages_in (all_labels t left.passed) ++ ms) (sym (begun_silent t left.next))
    ∙ sym (messages_in-append (all_labels t left.passed) (begun_of t left.next))
    ∙ ap messages_in e

-- ---- where no level stands none is announced again

again_none : (c : Context) → levels c ≡ 0 → again c ≡ c
again_none [] e = refl
again_none (frame.On p ∷ c) e = ap (λ d. frame.On p ∷ d) (again_none c e)
again_none (frame.Protect k cleanup ∷ c) e = ap (λ d. frame.Protect k cleanup ∷ d) (again_none c e)
again_none (frame.Cleanup k saved ∷ c) e = ap (λ d. frame.Cleanup k saved ∷ d) (again_none c e)
again_none (frame.Rex i id form ∷ c) e = ap (λ d. frame.Rex i id form ∷ d) (again_none c e)
again_none (frame.Ask kind tag ∷ c) e = ap (λ d. frame.Ask kind tag ∷ d) (again_none c e)
again_none (frame.Sldb k condition told ∷ c) e = absurd (omega arith)

pub stir_none : (b : Bool) (c : Context) → levels c ≡ 0 → stir b c ≡ c
stir_none true c e = again_none c e
stir_none false c e = refl

-- ---- where it comes to

handler_lands : (n : Now) (clause : Option Ast) (vs : List Value) → runs_handler n clause vs ≡ run_by n (clause_in clause) vs
handler_lands n None vs = refl
handler_lands n (Some clause) vs = refl

action_lands : (n : Now) (action : Action) (vs : List Value) → runs_action n action vs ≡ run_by n (action_in action) vs
action_lands n (Give o) vs = refl
action_lands n (Run clause) vs = refl

offer_lands : (n : Now) (offer : Option Offer) (vs : List Value) → runs_offer n offer vs ≡ run_by n (offer_in offer) vs
offer_lands n None vs = refl
offer_lands n (Some offer) vs = action_lands n offer.action vs

clause_lands : (n : Now) (target : Option Frame) (i : ℕ) (vs : List Value) → runs_clause n target i vs ≡ run_by n (clause_at target i) vs
clause_lands n (Some (frame.On (plain.Handlers (Clauses clauses)))) i vs = handler_lands n (slice_get clauses i) vs
clause_lands n (Some (frame.On (plain.Restarts offers))) i vs = offer_lands n (slice_get offers i) vs
clause_lands n target i vs = refl

call_lands : (n : Now) (target : Option Frame) → calls_again n target ≡ run_by n (call_at target) []
call_lands n (Some (frame.On (plain.Call f vs))) = refl
call_lands n target = refl

brings_lands : (n : Now) (b : Bring) (target : Option Frame) → brings n b target ≡ brought n b (run_at b target)
brings_lands n (bring.Value v) target = refl
brings_lands n (bring.Reply r) target = refl
brings_lands n (bring.Clause i vs) target = clause_lands n target i vs
brings_lands n bring.Call target = call_lands n target
brings_lands n bring.Nothing target = refl

-- what the definition lands in is what was found at the target
pub lands_landed : (n : Now) (b : Bring) (target : Option Frame) (to : Next) (runs : Runs) → IsBrought b to → runs ≡ run_at b target → lands n b target (todo_of to) ≡ landed n to runs
lands_landed n b target (next.Arrives x) runs e f = brings_lands n b target ∙ ap (brought n b) (sym f) ∙ ap (λ y. brought n y runs) (sym e)
lands_landed n b target (next.Cleans k cleanup) runs e f = refl

-- ---- the whole exit

levels_left : (t : ℕ) (x : Saved) (k : ℕ) (c : Context) → levels c ≡ 0 → levels (leave t x k c).around ≡ 0
levels_left t x zero c e = e
levels_left t x (suc k) [] e = refl
levels_left t x (suc k) (frame.Protect i cleanup ∷ c) e = e
levels_left t x (suc k) (frame.On p ∷ c) e = levels_left t x k c e
levels_left t x (suc k) (frame.Cleanup i saved ∷ c) e = levels_left t x k c e
levels_left t x (suc k) (frame.Rex i id form ∷ c) e = levels_left t x k c e
levels_left t x (suc k) (frame.Ask kind tag ∷ c) e = levels_left t x k c e
levels_left t x (suc k) (frame.Sldb i condition told ∷ c) e = absurd (omega arith)

abbrev leaving : ℕ → Leaving → Context → exit.Left
leaving t x c = leave t (saved.Exit x.target x.bring) (distance x.target c) c

-- an exit drops what is told, and lands in what was found at its target
pub exits_landed : (r : Rest) (s : StackState) (x : Leaving) (d : Context) (left : Left) (runs : Runs)
    → ((t : ℕ) → leaving t x s.context ≡ left_behind t d left) → IsBrought x.bring left.next → runs ≡ run_at x.bring (layer_at x.target s.context) → levels s.context ≡ 0
    → exits (amid r s) x.target x.bring ≡ landed (amid (telling (dropped r.thread x s.context) r) (with_context d s)) left.next runs
exits_landed r s x d left runs e brought_is runs_is flat =
    let target = layer_at x.target s.context in
    let behind = left_behind r.thread d left in
    let flat_after : levels d ≡ 0 = ap (λ (l : exit.Left). levels l.around) (sym (e r.thread)) ∙ levels_left r.thread (saved.Exit x.target x.bring) (distance x.target s.context) s.context flat in
    ap (λ (l : exit.Left). lands (after_leaving (amid r s) l) x.bring target l.todo) (e r.thread)
    ∙ ap (λ c. lands (tells (around (amid r s) c) behind.labels) x.bring target behind.todo) (stir_none behind.stirred d flat_after)
    ∙ ap (λ ls. lands (amid (telling ls r) (with_context d s)) x.bring target behind.todo) (sym (ap (λ (l : exit.Left). l.labels) (e r.thread)))
    ∙ lands_landed (amid (telling (dropped r.thread x s.context) r) (with_context d s)) x.bring target left.next runs brought_is runs_is
