use Rattle.std.proofs.Common.{rules, arith, ◌≡◌, sym, ◌∙◌, subst}
use Rattle.std.specs.Prelude.{int_rem}
use Rattle.std.proofs.lemmas.Int.{to_z-of_z}
use Rattle.lisp_numbers.specs.Division.{left_by, truncated}
use Rattle.lisp_numbers.proofs.DivisionLemmas.{left_truncated, numbered}
use Rattle.lisp_numbers.proofs.division.remainder.Goals as goal
use mir.Val.{SFits, to_z, of_z}
use mir.Syntax.{w64}

pub returns : goal.returns
returns c =
    let fits : SFits w64 c.wrapping_rem.result = search rules in
    let was : c.wrapping_rem.result ≡ int_rem c.args.dividend c.args.divisor = grind (arith, to_z-of_z, c.wrapping_rem.ensures) in
    let left : left_by truncated c.args.dividend c.args.divisor ≡ int_rem c.args.dividend c.args.divisor = left_truncated c.args.dividend c.args.divisor in
    let same : c.wrapping_rem.result ≡ left_by truncated c.args.dividend c.args.divisor = was ∙ sym left in
    numbered c.args.divisor (left_by truncated c.args.dividend c.args.divisor) (to_z w64 (of_z w64 c.wrapping_rem.result)) c.if-divisor-eq0.false (subst (SFits w64) same fits) (to_z-of_z w64 c.wrapping_rem.result fits ∙ same)
