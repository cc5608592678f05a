use Rattle.std.proofs.Common.{◌≡◌, ◌++◌, sym, ap, ◌∙◌}
use Rattle.lisp_control.specs.declared.left.Left.{Left}
use Rattle.lisp_frames.specs.Stack.{StackState}
use Rattle.term_model.specs.Exit as exit
use Rattle.lisp_acts.specs.Amid.{Rest, amid, telling}
use Rattle.lisp_acts.specs.Exits.{dropped, landed}
use Rattle.lisp_acts.specs.Runs.{run_at}
use Rattle.lisp_acts.proofs.ExitLemmas.{exits_landed, told}
use Rattle.lisp_acts.proofs.exits.exit.Goals as goal

-- what it lands in is carried out with what was dropped told
pub returns-clause-now : goal.returns-clause-now
returns-clause-now c =
    let s = c.args.stack.now in
    let x = c.args.exit in
    let left : Left = c.in_ok-passed.field-0 in
    λ (r : Rest) (e : r.thread ≡ c.args.thread).
    exits_landed r s x c.leave.new.stack.context left c.in_ok-runs.runs c.in_ok-passed.ensures.left c.in_ok-passed.ensures.brought
    (c.in_ok-runs.ensures ∙ ap (run_at x.bring) c.frame_at.ensures) c.requires.no_levels
    ∙ ap (λ (there : StackState). landed (amid (telling (dropped r.thread x s.context) r) there) left.next c.in_ok-runs.runs) (sym c.in_ok-passed.ensures.rest)
    ∙ ap (λ t. landed (amid (telling (dropped t x s.context) r) c.leave.new.stack) left.next c.in_ok-runs.runs) e
    ∙ c.in_ok-over.ensures (telling (dropped c.args.thread x s.context) r)

pub returns-clause-outs : goal.returns-clause-outs
returns-clause-outs c =
    let left : Left = c.in_ok-passed.field-0 in
    c.in_ok-tell.ensures
    ∙ ap (λ ms. c.args.outs.now ++ ms) (told c.args.thread c.args.exit c.args.stack.now.context c.leave.new.stack.context left (sym (ap (λ (l : exit.Left). l.labels) (c.in_ok-passed.ensures.left c.args.thread))))
