use Rattle.sexp_printer.proofs.Spelled.{answer-spelled}
use Rattle.sexp_printer.proofs.form.print_wire.Goals as goal

pub returns-clause-spelled : goal.returns-clause-spelled
returns-clause-spelled c = answer-spelled c.print_in.result c.args.form.now c.print_in.ensures
