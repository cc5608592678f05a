use Rattle.std.proofs.Common.{◌≡◌, ◌+◌, ◌-◌, ◌^◌, ◌≤◌, drop, map, sum}
use Rattle.lisp_data.specs.Sexp.{capped}
use Rattle.lisp_data.specs.Value.{weight_of}
use Rattle.lisp_builtins.proofs.lists.items_weight.Given as goal

-- the total and the items still to come are the whole, as far as 64 bits hold it
abbrev pub invariant-loop-item : goal.invariant-loop-item
invariant-loop-item l = record {
  whole : capped (l.total + sum (map weight_of (drop l.item-index l.items))) ≡ capped (sum (map weight_of l.fn.items));
  fits : l.total ≤ 2 ^ 64 - 1;
}
