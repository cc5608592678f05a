use Rattle.std.proofs.Common.{◌<◌, ◌≤◌, length, rules}
use Rattle.lisp_image.proofs.PlaceLemmas.{set-value, with_value_at-past}
use Rattle.lisp_image.proofs.symbol_map.replace.Goals as goal

pub returns-then-place-len : goal.returns-then-place-len
returns-then-place-len g c =
    let within : c.args.place < length c.args.entries.now.items = search rules in
    set-value c.args.entries.now.items c.args.place c.index_mut.result.now c.args.value within c.index_mut.ensures.value

pub returns-else-place-len : goal.returns-else-place-len
returns-else-place-len g c =
    let past : length c.args.entries.now.items ≤ c.args.place = search rules in
    with_value_at-past c.args.entries.now.items c.args.place c.args.value past
