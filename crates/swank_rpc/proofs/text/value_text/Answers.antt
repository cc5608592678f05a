use Rattle.std.proofs.Common.{◌<◌, ◌≤◌, ◌^◌, ◌++◌, true, arith, length, rules, sym}
use Rattle.sexp_printer.specs.UserText.{user_text}
use Rattle.swank_rpc.proofs.SizeLemmas.{length-between, within-none, within-some}
use Rattle.swank_rpc.proofs.text.value_text.Goals as goal

pub returns-then-length-ge-MAX_WEIGHT : goal.returns-then-length-ge-MAX_WEIGHT
returns-then-length-ge-MAX_WEIGHT c =
    let shown = user_text c.args.«package».now true c.args.value.now in
    let whole = c.args.before.now ++ shown ++ c.args.after.now in
    let parts = length-between c.args.before.now shown c.args.after.now in
    let long : 2 ^ 20 ≤ length whole = omega (arith, parts) in
    sym (within-none whole long)

pub returns : goal.returns
returns c =
    let shown = user_text c.args.«package».now true c.args.value.now in
    let whole = c.args.before.now ++ shown ++ c.args.after.now in
    let parts = length-between c.args.before.now shown c.args.after.now in
    let short : length whole < 2 ^ 20 = omega (arith, parts) in
    rw (within-some whole short) (search rules)
