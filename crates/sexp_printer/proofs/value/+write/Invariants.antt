use Rattle.std.proofs.Common.{◌≡◌, ◌++◌, ◌∷◌, [], drop, map}
use Rattle.sexp_printer.specs.Printed.{others_of}
use Rattle.sexp_printer.specs.UserText.{user_text}
use Rattle.sexp_printer.proofs.value.+write.Given as goal

-- what is written, and what is still to come, is the whole
abbrev pub invariant-loop-item : goal.invariant-loop-item
invariant-loop-item l = l.out ++ (others_of (map (user_text l.current l.escape) (drop l.item-index l.others)) ++ 41 ∷ []) ≡ l.fn.out ++ user_text l.current l.escape l.value
