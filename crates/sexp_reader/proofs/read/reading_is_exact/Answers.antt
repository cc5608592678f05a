use Rattle.sexp_reader.proofs.Exact.{exact-form, one-value, one-fault, not-both}
use Rattle.sexp_reader.proofs.Total.{one-or-fault}
use Rattle.sexp_reader.proofs.read.reading_is_exact.Goals as goal

pub returns-clause-some : goal.returns-clause-some
returns-clause-some c text = one-or-fault text

pub returns-clause-one_form : goal.returns-clause-one_form
returns-clause-one_form c text = one-value (exact-form text)

pub returns-clause-one_fault : goal.returns-clause-one_fault
returns-clause-one_fault c text = one-fault (exact-form text)

pub returns-clause-not_both : goal.returns-clause-not_both
returns-clause-not_both c text = not-both (exact-form text)
