use Rattle.std.proofs.Common.{arith, ◌≡◌, ◌∙◌, get_or}
use Rattle.lisp_numbers.specs.Range.{result_of, ranged}
use Rattle.lisp_numbers.specs.declared.computed.Computed.TheVariants.{Number}
use Rattle.std.proofs.lemmas.Int.{to_z-of_z}
use Rattle.lisp_numbers.proofs.RangeLemmas.{stepped_in}
use Rattle.lisp_numbers.proofs.many.from_left.Goals as goal
use mir.Val.{to_z, of_z}
use mir.Syntax.{w64}
use lib.IntN.{pos}

pub loop-rest-preserved : goal.loop-rest-preserved
loop-rest-preserved c =
    let was : Number (to_z w64 (of_z w64 c.in-Number.number)) ≡ ranged (result_of c.args.operation (to_z w64 c.loop-rest.so_far-bits) (get_or c.loop-rest.rest.now 0 (pos 0))) = grind (arith, to_z-of_z, c.in-Number.ensures) in
    stepped_in (result_of c.args.operation) (to_z w64 c.loop-rest.so_far-bits) (to_z w64 (of_z w64 c.in-Number.number)) c.loop-rest.rest.now (pos 0) _ c.in-len1-up.len_at_least (omega arith) was ∙ c.loop-rest.invariant
