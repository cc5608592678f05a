use Rattle.std.proofs.Common.{◌≡◌, ◌+◌, ◌∷◌, [], length, reverse, List, Some, sym, ap, ◌∙◌, subst, arith, length-append}
use Rattle.session_model.specs.World.{fresh}
use Rattle.swank_core.specs.Workers.{AreWorkers}
use Rattle.swank_core.proofs.WorkerLemmas.{new_pushed, workers_further}
use Rattle.swank_core.proofs.live.Live.hire.Goals as goal

pub invariant_of-self-in_err-push : goal.invariant_of-self-in_err-push
invariant_of-self-in_err-push c =
    let i = c.self.inside in
    let long : length c.hire.new.self ≡ length i.threads + 1 = ap length c.in_ok-t.ensures.hired ∙ length-append i.threads (Some (fresh ((c.args.at, c.args.m.now) ∷ [])) ∷ []) in
    subst (λ (ws : List _). AreWorkers (length c.hire.new.self) (reverse ws)) (sym c.in_err-push.ensures.items) (workers_further (length i.threads) (length c.hire.new.self) (reverse i.workers.items) c.self.invariant (omega (arith, long)))

pub invariant_of-self-2 : goal.invariant_of-self-2
invariant_of-self-2 c =
    let i = c.self.inside in
    let long : length c.hire.new.self ≡ length i.threads + 1 = ap length c.in_ok-t.ensures.hired ∙ length-append i.threads (Some (fresh ((c.args.at, c.args.m.now) ∷ [])) ∷ []) in
    new_pushed (length i.threads) (length c.hire.new.self) c.in_ok-t.t i.workers.items c.push.new.self.items c.self.invariant c.in_ok-push.ensures.items c.in_ok-t.ensures.number long
