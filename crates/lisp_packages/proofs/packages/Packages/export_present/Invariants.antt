use Rattle.std.proofs.Common.{◌≡◌, drop}
use Rattle.lisp_packages.specs.Making.{exported}
use Rattle.lisp_packages.proofs.packages.Packages.export_present.Given as goal

abbrev pub invariant-loop-wanted : goal.invariant-loop-wanted
invariant-loop-wanted l = exported l.place (drop l.wanted-index l.names) l.self ≡ exported l.place l.names l.initial.self
