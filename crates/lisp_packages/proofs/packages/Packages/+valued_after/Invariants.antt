use Rattle.std.proofs.Common.{◌≡◌, drop, map}
use Rattle.lisp_packages.specs.Made.{with_made}
use Rattle.lisp_packages.specs.Naming.{valued, in_turn}
use Rattle.lisp_packages.proofs.ValueLemmas.{values_before}
use Rattle.lisp_packages.proofs.packages.Packages.+valued_after.Given as goal

-- the values so far and those of the items still to come are the whole
abbrev pub invariant-loop-item : goal.invariant-loop-item
invariant-loop-item l = values_before l.values (in_turn (map (valued l.current) (drop l.item-index l.item-items)) (with_made l.self l.made)) ≡ in_turn (map (valued l.current) l.item-items) (with_made l.self l.initial.made)
