use Rattle.std.proofs.Common.{◌≡◌, drop}
use Rattle.std.specs.List.{list_any}
use Rattle.lisp_packages.specs.Packages.{places_from, clashes_for_user, clashes_for_users}
use Rattle.lisp_packages.proofs.packages.Packages.clashes_for_users.Given as goal

-- whether one of the packages still to come clashes is whether one of all does
abbrev pub invariant-loop-user : goal.invariant-loop-user
invariant-loop-user l = list_any (clashes_for_user l.self l.place l.symbol) (places_from l.user (drop l.user l.self)) ≡ clashes_for_users l.self l.place l.symbol
