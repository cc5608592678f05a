use Rattle.lisp_syntax.specs.Fits.{fitting_of}
use Rattle.lisp_syntax.proofs.Parses.{planted_some, below_some}
use Rattle.lisp_syntax.proofs.parser.fit.Goals as goal

pub returns-in-Ok-clause-row : goal.returns-in-Ok-clause-row
returns-in-Ok-clause-row c = planted_some c.args.sort c.args.value.now (fitting_of c.in-Ok.fit) c.in-Ok.ensures

pub returns-in-Ok-clause-below : goal.returns-in-Ok-clause-below
returns-in-Ok-clause-below c = below_some c.args.sort c.args.value.now (fitting_of c.in-Ok.fit) c.in-Ok.ensures
