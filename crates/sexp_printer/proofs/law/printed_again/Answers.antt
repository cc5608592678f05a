use Rattle.sexp_printer.proofs.Spelled.{printed-spelled}
use Rattle.sexp_printer.proofs.law.printed_again.Goals as goal

pub returns : goal.returns
returns c form plain = printed-spelled form plain
