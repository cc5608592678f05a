use Rattle.std.proofs.Common.{◌∷◌, List, ℕ, reverse, sym, ap, ◌∙◌, subst}
use Rattle.session_model.specs.Arriving.{workers_without}
use Rattle.swank_core.specs.Workers.{AreWorkers}
use Rattle.swank_core.proofs.WorkerLemmas.{reverse_pushed, workers_front, workers_less}
use Rattle.swank_core.proofs.workers.route.Goals as goal

pub returns-in_err-push-clause-kept : goal.returns-in_err-push-clause-kept
returns-in_err-push-clause-kept c = λ n less h.
    let old = reverse c.args.workers.now.items in
    let is =
    ap reverse c.in_err-push.ensures.items ∙ c.remove_worker.ensures ∙ ap (λ (ws : List ℕ). workers_without c.args.t (reverse ws)) c.in_ok-reserve.ensures.items in
    subst (AreWorkers n) (sym is) (workers_less n c.args.t old h)

pub returns-clause-kept : goal.returns-clause-kept
returns-clause-kept c = λ n less h.
    let t = c.args.t in
    let old = reverse c.args.workers.now.items in
    let is =
    ap reverse c.in_ok-push.ensures.items ∙ reverse_pushed t c.remove_worker.new.workers.items
    ∙ ap (λ (ws : List ℕ). t ∷ ws) (c.remove_worker.ensures ∙ ap (λ (ws : List ℕ). workers_without t (reverse ws)) c.in_ok-reserve.ensures.items) in
    subst (AreWorkers n) (sym is) (workers_front n t old less h)
