use Rattle.std.proofs.Common.{◌≡◌, ◌<◌, drop, length}
use Rattle.lisp_packages.specs.Making.{all_present, IsUndone}
use Rattle.lisp_packages.proofs.packages.Packages.make_all_present.Given as goal

abbrev pub invariant-loop-wanted : goal.invariant-loop-wanted
invariant-loop-wanted l = record {
  so_far : all_present l.place (drop l.wanted-index l.names) l.self ≡ all_present l.place l.names l.initial.self;
  undone : IsUndone l.place l.initial.self l.self;
  within : l.place < length l.self;
}
