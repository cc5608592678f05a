use Rattle.std.proofs.Common.{rules, reverse, ap, ◌∙◌}
use Rattle.std.proofs.lemmas.Fn.{filter_same}
use Rattle.swank_core.proofs.WorkerLemmas.{reverse-without}
use Rattle.swank_core.proofs.workers.remove_worker.Goals as goal

pub returns : goal.returns
returns c = ap reverse (filter_same _ _ _ (λ x b f' k. search rules) _ _ c.retain.ensures.filtered) ∙ reverse-without c.args.t c.args.workers.now.items
