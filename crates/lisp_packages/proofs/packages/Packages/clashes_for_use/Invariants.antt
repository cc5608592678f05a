use Rattle.std.proofs.Common.{◌≡◌, drop}
use Rattle.std.specs.List.{list_any}
use Rattle.lisp_packages.specs.Changes.{entry_clashes}
use Rattle.lisp_packages.specs.Packages.{own_at}
use Rattle.lisp_packages.proofs.packages.Packages.clashes_for_use.Given as goal

-- whether one of the entries still to come clashes is whether one of all does
abbrev pub invariant-loop-n : goal.invariant-loop-n
invariant-loop-n l = list_any (entry_clashes l.self l.place) (drop l.n (own_at l.self l.used)) ≡ list_any (entry_clashes l.self l.place) (own_at l.self l.used)
