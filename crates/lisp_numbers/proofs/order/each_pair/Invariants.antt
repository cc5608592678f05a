use Rattle.std.proofs.Common.{◌≡◌, length}
use Rattle.lisp_numbers.specs.Order.{neighbours_hold}
use Rattle.lisp_numbers.proofs.order.each_pair.Given as goal

-- all pairs hold exactly where those that are left do
abbrev pub invariant-loop-rest : goal.invariant-loop-rest
invariant-loop-rest l = neighbours_hold l.relation l.before l.rest ≡ neighbours_hold l.fn.relation l.fn.first l.fn.others

abbrev pub decreases-loop-rest : goal.decreases-loop-rest
decreases-loop-rest l = length l.rest
