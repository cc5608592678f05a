use Rattle.std.proofs.Common.{arith, ◌≡◌}
use Rattle.std.specs.Prelude.{fold}
use Rattle.std.specs.Int.{int_max}
use Rattle.std.proofs.lemmas.Int.{fold-int_max_bounds, fold-int_max_reached}
use Rattle.std.proofs.lemmas.Grind.{common_steps}
use Rattle.lisp_numbers.proofs.order.greatest.Goals as goal
use mir.Val.{to_z}
use mir.Syntax.{w64}

pub returns-clause-first_bound : goal.returns-clause-first_bound
returns-clause-first_bound c =
    let value : to_z w64 c.loop-number.found-bits ≡ fold int_max c.args.first c.args.others.now = grind (arith, common_steps) in
    (fold-int_max_bounds c.args.first c.args.others.now (to_z w64 c.loop-number.found-bits) value).0

pub returns-clause-others_bound : goal.returns-clause-others_bound
returns-clause-others_bound c =
    let value : to_z w64 c.loop-number.found-bits ≡ fold int_max c.args.first c.args.others.now = grind (arith, common_steps) in
    (fold-int_max_bounds c.args.first c.args.others.now (to_z w64 c.loop-number.found-bits) value).1

pub returns-clause-reached : goal.returns-clause-reached
returns-clause-reached c =
    let value : to_z w64 c.loop-number.found-bits ≡ fold int_max c.args.first c.args.others.now = grind (arith, common_steps) in
    fold-int_max_reached c.args.first c.args.others.now (to_z w64 c.loop-number.found-bits) value
