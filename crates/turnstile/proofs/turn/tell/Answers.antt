use Rattle.std.proofs.Common.{rules, arith}
use Rattle.turnstile.proofs.RuleLemmas.{stays}
use Rattle.turnstile.proofs.turn.tell.Goals as goal

pub store-requires : goal.store-requires
store-requires g c = (search rules, search rules, stays g.V.Kept.number_of g.V.Kept.history _ _ _ 2 (λ _. c.args.changes) (omega arith))
