use Rattle.std.proofs.Common.{ap, ◌+◌, ◌∙◌}
use Rattle.lisp_format.proofs.HexadecimalLemmas.{digits-more}
use Rattle.lisp_format.proofs.hexadecimal.+digits_length.Goals as goal

pub returns-else-n-eq0-clause-value : goal.returns-else-n-eq0-clause-value
returns-else-n-eq0-clause-value t c = ap (λ n. 1 + n) c.digits_length.ensures.value ∙ digits-more c.args.places c.args.n c.if-places-eq0.false c.if-n-eq0.false
