use Rattle.std.proofs.Common.{◌≡◌, drop}
use Rattle.std.specs.List.{list_any}
use Rattle.lisp_packages.specs.Making.{export_clashes}
use Rattle.lisp_packages.proofs.packages.Packages.exports_clash.Given as goal

-- whether one of the names still to come clashes is whether one of all does
abbrev pub invariant-loop-wanted : goal.invariant-loop-wanted
invariant-loop-wanted l = list_any (export_clashes l.self l.place) (drop l.wanted-index l.names) ≡ list_any (export_clashes l.self l.place) l.names
