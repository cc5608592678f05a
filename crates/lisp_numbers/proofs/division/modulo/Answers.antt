use Rattle.std.proofs.Common.{rules, arith, ◌≡◌, true, false, ◌+ℤ◌}
use Rattle.std.specs.Prelude.{int_rem}
use Rattle.std.proofs.lemmas.Int.{to_z-of_z}
use Rattle.lisp_numbers.specs.Division.{are_opposite}
use Rattle.lisp_numbers.proofs.DivisionLemmas.{mod_moved, mod_kept, opposite_fits}
use Rattle.lisp_numbers.proofs.division.modulo.Goals as goal
use mir.Val.{SFits, to_z, of_z}
use mir.Syntax.{w64}

pub returns-then-are_opposite : goal.returns-then-are_opposite
returns-then-are_opposite c =
    let fits : SFits w64 c.wrapping_rem-rest.result = search rules in
    let was : c.wrapping_rem-rest.result ≡ int_rem c.args.dividend c.args.divisor = grind (arith, to_z-of_z, c.wrapping_rem-rest.ensures) in
    let test : are_opposite c.wrapping_rem-rest.result c.args.divisor ≡ true = grind (arith, to_z-of_z, c.are_opposite.ensures, c.if-are_opposite.true) in
    let sum_fits : SFits w64 (c.wrapping_rem-rest.result +ℤ c.args.divisor) = opposite_fits c.wrapping_rem-rest.result c.args.divisor fits c.ranges.divisor test in
    mod_moved c.args.dividend c.args.divisor c.wrapping_rem-rest.result (to_z w64 (of_z w64 (to_z w64 (of_z w64 c.wrapping_rem-rest.result) +ℤ to_z w64 (of_z w64 c.args.divisor)))) c.if-divisor-eq0.false fits c.ranges.divisor was test (grind (arith, to_z-of_z, sum_fits))

pub returns-else-are_opposite : goal.returns-else-are_opposite
returns-else-are_opposite c =
    let fits : SFits w64 c.wrapping_rem-rest.result = search rules in
    let was : c.wrapping_rem-rest.result ≡ int_rem c.args.dividend c.args.divisor = grind (arith, to_z-of_z, c.wrapping_rem-rest.ensures) in
    let test : are_opposite c.wrapping_rem-rest.result c.args.divisor ≡ false = grind (arith, to_z-of_z, c.are_opposite.ensures, c.if-are_opposite.false) in
    mod_kept c.args.dividend c.args.divisor c.wrapping_rem-rest.result (to_z w64 (of_z w64 c.wrapping_rem-rest.result)) c.if-divisor-eq0.false fits was test (to_z-of_z w64 c.wrapping_rem-rest.result fits)
