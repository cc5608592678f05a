use Rattle.std.proofs.Common.{◌≤◌, ◌^◌, arith, map, sum}
use Rattle.std.specs.Prelude.{Ok}
use Rattle.lisp_data.specs.Value.{weight_of}
use Rattle.lisp_data.specs.declared.value.Value.TheVariants as value
use Rattle.lisp_builtins.proofs.SizeLemmas.{heavy_list, refused_size}
use Rattle.lisp_builtins.proofs.lists.listed.Goals as goal

pub returns-then-items_weight-ge-MAX_WEIGHT : goal.returns-then-items_weight-ge-MAX_WEIGHT
returns-then-items_weight-ge-MAX_WEIGHT c =
    let heavy : 2 ^ 20 ≤ sum (map weight_of c.args.items.now) = omega arith in
    refused_size c.refuse_size.result (Ok (value.List c.args.items.now)) c.refuse_size.ensures (heavy_list c.args.items.now heavy)
