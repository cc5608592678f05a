use Rattle.std.proofs.Common.{◌≡◌, drop}
use Rattle.lisp_packages.specs.Packages.{inherited}
use Rattle.lisp_packages.proofs.packages.Packages.inherited.Given as goal

-- what is found in the packages still to come is what is found in all
abbrev pub invariant-loop-used : goal.invariant-loop-used
invariant-loop-used l = inherited l.self (drop l.used-index l.used-items) l.name ≡ inherited l.self l.used-items l.name
