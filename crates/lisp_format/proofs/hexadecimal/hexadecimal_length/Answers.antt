use Rattle.std.proofs.Common.{ap, sym, ◌∙◌, true, false, length}
use Rattle.std.proofs.lemmas.Int.{to_z-of_z}
use Rattle.std.specs.Prelude.{pos, int_lt, unsigned_abs}
use Rattle.std.specs.Fmt.{digits}
use Rattle.std.specs.Int.{w64}
use Rattle.lisp_format.proofs.HexadecimalLemmas.{digits-at, length-hexadecimal, length-hexadecimal-minus}
use Rattle.lisp_format.proofs.hexadecimal.hexadecimal_length.Goals as goal

pub returns-then-number-lt0 : goal.returns-then-number-lt0
returns-then-number-lt0 c =
    let own = to_z-of_z w64 c.args.number c.ranges.number in
    let size = c.digits_length-digits.ensures.value ∙ (ap length (digits-at c.unsigned_abs.result) ∙ ap (λ n. length (digits 16 true n)) (c.unsigned_abs.ensures.value ∙ ap unsigned_abs own)) in
    length-hexadecimal-minus c.args.number c.digits_length-digits.result (ap (λ z. int_lt z (pos 0)) (sym own) ∙ c.if-number-lt0.true) size

pub returns-else-number-lt0 : goal.returns-else-number-lt0
returns-else-number-lt0 c =
    let own = to_z-of_z w64 c.args.number c.ranges.number in
    let size = c.digits_length-digits.ensures.value ∙ (ap length (digits-at c.unsigned_abs.result) ∙ ap (λ n. length (digits 16 true n)) (c.unsigned_abs.ensures.value ∙ ap unsigned_abs own)) in
    length-hexadecimal c.args.number c.digits_length-digits.result (ap (λ z. int_lt z (pos 0)) (sym own) ∙ c.if-number-lt0.false) size
