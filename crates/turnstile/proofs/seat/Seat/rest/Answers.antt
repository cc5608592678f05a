use Rattle.std.proofs.Common.{rules, ◌+◌, ◌-◌, ◌%◌, ◌^◌, arith}
use Rattle.turnstile.proofs.RuleLemmas.{stays}
use Rattle.turnstile.proofs.seat.Seat.rest.Goals as goal

pub fetch_add-requires : goal.fetch_add-requires
fetch_add-requires g c = (search rules, search rules, stays g.V.Kept.number_of g.V.Kept.history _ _ _ 3 (λ n. (n + 1) % 2 ^ 64) (omega arith))

pub fetch_sub-requires : goal.fetch_sub-requires
fetch_sub-requires g c = (search rules, search rules, stays g.V.Kept.number_of g.V.Kept.history _ _ _ 3 (λ n. (n + (2 ^ 64 - 1)) % 2 ^ 64) (omega arith))
