use Rattle.std.proofs.Common.{◌≡◌, ◌-◌, ◌≤◌, length}
use Rattle.term_model.specs.GoingIn.{found}
use Rattle.term_model.specs.Progress.{row_in}
use Rattle.going_in.proofs.going.found.Given as goal

-- the parts that are left have the same answer
abbrev pub invariant-parts : goal.invariant-parts
invariant-parts l =
    (length l.rest ≤ l.parts) ×
    (found l.needed (row_in l.node) (l.parts - length l.rest) l.values l.rest ≡
    found l.fn.needed (row_in l.fn.node) (l.fn.parts - length l.fn.rest) l.fn.values l.fn.rest)

abbrev pub decreases-parts : goal.decreases-parts
decreases-parts l = l.needed
