use Rattle.std.proofs.Common.{◌≡◌, drop}
use Rattle.lisp_packages.specs.Making.{uses_clash}
use Rattle.lisp_packages.proofs.packages.Packages.uses_clash.Given as goal

-- whether one of the packages still to come clashes is whether one of all does
abbrev pub invariant-loop-used : goal.invariant-loop-used
invariant-loop-used l = uses_clash l.self l.place (drop l.used-index l.uses) ≡ uses_clash l.self l.place l.uses
