use Rattle.std.proofs.Common.{◌≡◌, length}
use Rattle.lisp_packages.specs.Made.{undone}
use Rattle.lisp_packages.proofs.packages.Packages.undo.Given as goal

abbrev pub invariant-loop-place : goal.invariant-loop-place
invariant-loop-place l = undone l.done l.self ≡ undone l.initial.done l.initial.self

abbrev pub decreases-loop-place : goal.decreases-loop-place
decreases-loop-place l = length l.done
