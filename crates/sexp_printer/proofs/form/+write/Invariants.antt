use Rattle.std.proofs.Common.{◌≡◌, ◌++◌, ◌∷◌, [], drop, map}
use Rattle.sexp_printer.specs.Case.{change_of}
use Rattle.sexp_printer.specs.Printed.{others_of, text_of}
use Rattle.sexp_printer.proofs.form.+write.Given as goal

-- what is written, and what is still to come, is the whole
abbrev pub invariant-loop-item : goal.invariant-loop-item
invariant-loop-item l = l.out ++ (others_of (map (text_of (change_of l.case)) (drop l.item-index l.others)) ++ 41 ∷ []) ≡ l.fn.out ++ text_of (change_of l.case) l.form
