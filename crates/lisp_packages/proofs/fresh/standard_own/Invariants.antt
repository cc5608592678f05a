use Rattle.std.proofs.Common.{◌≡◌, map, fold, length}
use Rattle.lisp_packages.specs.Entries.{put_entry}
use Rattle.lisp_packages.specs.Fresh.{standard_entry, standard_own}
use Rattle.lisp_packages.proofs.fresh.standard_own.Given as goal

-- the symbols so far and those of the names still to come are all
abbrev pub invariant-loop-rest : goal.invariant-loop-rest
invariant-loop-rest l = fold (λ own name. put_entry own (standard_entry name)) l.own (map (λ name. name.now) l.rest) ≡ standard_own (map (λ name. name.now) l.initial.rest)

abbrev pub decreases-loop-rest : goal.decreases-loop-rest
decreases-loop-rest l = length l.rest
