use Rattle.std.proofs.Common.{◌<◌, ◌≤◌, length, rules, sym}
use Rattle.lisp_frames.specs.Stack.{by_change}
use Rattle.lisp_frames.proofs.ContextLemmas.{at_place-past, set_changed}
use Rattle.lisp_frames.proofs.changes.change_at.Goals as goal

pub returns-then-place-len : goal.returns-then-place-len
returns-then-place-len c =
    let within : c.args.place < length c.args.layers.now.items = search rules in
    set_changed c.args.layers.now.items (by_change c.args.made) c.args.place c.index_mut.result.now c.make_change.new.frame within c.index_mut.ensures.value c.make_change.ensures

pub returns-else-place-len : goal.returns-else-place-len
returns-else-place-len c =
    let past : length c.args.layers.now.items ≤ c.args.place = search rules in
    sym (at_place-past c.args.layers.now.items (by_change c.args.made) c.args.place past)
