use Rattle.std.proofs.Common.{◌≡◌, ◌<◌, drop, length}
use Rattle.lisp_packages.specs.Making.{with_used, IsUndone}
use Rattle.lisp_packages.proofs.packages.Packages.add_uses.Given as goal

abbrev pub invariant-loop-used : goal.invariant-loop-used
invariant-loop-used l = record {
  so_far : with_used l.self l.place (drop l.used-index l.places) ≡ with_used l.initial.self l.place l.places;
  undone : IsUndone l.place l.initial.self l.self;
  within : l.place < length l.self;
}
