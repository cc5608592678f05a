use Rattle.std.proofs.Common.{◌≡◌, ◌+◌, ◌-◌, ◌^◌, ◌≤◌, drop, map, sum}
use Rattle.lisp_data.specs.Sexp.{capped}
use Rattle.lisp_data.specs.Value.{weight_of}
use Rattle.lisp_sequences.specs.Lists.{append}
use Rattle.lisp_builtins.proofs.lists.lists_weight.Given as goal

-- the total and the lists still to come are the whole, as far as 64 bits hold it
abbrev pub invariant-loop-list : goal.invariant-loop-list
invariant-loop-list l = record {
  whole : capped (l.total + sum (map weight_of (append (drop l.list-index l.lists)))) ≡ capped (sum (map weight_of (append l.fn.lists)));
  fits : l.total ≤ 2 ^ 64 - 1;
}
