use Rattle.std.proofs.Common.{◌≡◌, take}
use Rattle.lisp_packages.specs.Made.{undone, with_made}
use Rattle.lisp_packages.proofs.packages.Packages.commit.Given as goal

abbrev pub invariant-loop-n : goal.invariant-loop-n
invariant-loop-n l = record {
  so_far : l.self ≡ with_made l.initial.self (take l.n l.made);
  undone : undone l.done l.self ≡ l.initial.self;
}
