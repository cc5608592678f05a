use Rattle.sexp_reader.proofs.Exact.{exact-forms, one-value, one-fault, not-both}
use Rattle.sexp_reader.proofs.Total.{all-or-fault}
use Rattle.sexp_reader.proofs.read.reading_all_is_exact.Goals as goal

pub returns-clause-some : goal.returns-clause-some
returns-clause-some c text = all-or-fault text

pub returns-clause-one_list : goal.returns-clause-one_list
returns-clause-one_list c text = one-value (exact-forms text)

pub returns-clause-one_fault : goal.returns-clause-one_fault
returns-clause-one_fault c text = one-fault (exact-forms text)

pub returns-clause-not_both : goal.returns-clause-not_both
returns-clause-not_both c text = not-both (exact-forms text)
