use Rattle.std.proofs.Common.{length, reverse, sym, subst}
use Rattle.swank_core.specs.Workers.{AreWorkers}
use Rattle.swank_core.proofs.WorkerLemmas.{workers_less}
use Rattle.swank_core.proofs.live.Live.burst.Goals as goal

pub invariant_of-self-then-run : goal.invariant_of-self-then-run
invariant_of-self-then-run c =
    subst (λ n. AreWorkers n (reverse c.remove_worker.new.workers.items)) (sym c.burst.ensures.long)
    (subst (AreWorkers (length c.self.inside.threads)) (sym c.remove_worker.ensures) (workers_less (length c.self.inside.threads) c.args.t (reverse c.self.inside.workers.items) c.self.invariant))
