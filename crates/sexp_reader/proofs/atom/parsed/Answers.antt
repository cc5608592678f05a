use Rattle.sexp_reader.proofs.IntegerLemmas.{too_wide}
use Rattle.sexp_reader.proofs.atom.parsed.Goals as goal

pub returns-in-Err : goal.returns-in-Err
returns-in-Err c = too_wide c.args.text.now c.requires c.in-Err.ensures.value.0
