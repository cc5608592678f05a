use Rattle.std.proofs.Common.{◌≡◌, map, take}
use Rattle.lisp_syntax.specs.Fits.{written}
use Rattle.lisp_syntax.proofs.items.forms.Given as goal

abbrev pub invariant-loop-item : goal.invariant-loop-item
invariant-loop-item l = map written l.forms ≡ take l.item-index l.items
