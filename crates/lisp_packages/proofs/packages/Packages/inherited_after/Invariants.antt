use Rattle.std.proofs.Common.{◌≡◌, drop}
use Rattle.lisp_packages.specs.Made.{with_made}
use Rattle.lisp_packages.specs.Packages.{inherited}
use Rattle.lisp_packages.proofs.packages.Packages.inherited_after.Given as goal

-- what is found in the packages still to come is what is found in all
abbrev pub invariant-loop-used : goal.invariant-loop-used
invariant-loop-used l = inherited (with_made l.self l.made) (drop l.used-index l.used-items) l.name ≡ inherited (with_made l.self l.made) l.used-items l.name
