use Rattle.std.proofs.Common.{◌≡◌, Some, slice_get, arith}
use Rattle.lisp_packages.proofs.NamedLemmas.{added-step, slice_get-item}
use Rattle.lisp_packages.proofs.index.add_names.Goals as goal

pub loop-nickname-preserved : goal.loop-nickname-preserved
loop-nickname-preserved c = record {
  names = c.add_name-in-loop-nickname.ensures.names;
  added =
      let at : slice_get c.as_slice-nickname-items.result.now c.loop-nickname.nickname-index ≡ Some c.nickname-item.result =
      slice_get-item c.as_slice-nickname-items.result.now c.loop-nickname.nickname-index c.nickname-item.result (omega arith) c.nickname-item.is in
      added-step c.loop-nickname.names c.add_name-in-loop-nickname.new.names c.args.list.now c.args.place c.args.package.now.name c.as_slice-nickname-items.result.now c.loop-nickname.nickname-index c.nickname-item.result at
      c.loop-nickname.invariant.added c.in_ok-add_name-2.ensures.added c.add_name-in-loop-nickname.ensures.kept;
}
