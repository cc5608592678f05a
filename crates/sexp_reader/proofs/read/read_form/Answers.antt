use Rattle.std.proofs.Common.{chars}
use Rattle.sexp_reader.proofs.Exact.{exact-form, ok-is, err-is, is-ok, is-err}
use Rattle.sexp_reader.proofs.read.read_form.Goals as goal

pub returns-clause-read : goal.returns-clause-read
returns-clause-read c = ok-is (exact-form (chars c.args.text.now)) c.read_one.result c.read_one.ensures

pub returns-clause-refused : goal.returns-clause-refused
returns-clause-refused c = err-is (exact-form (chars c.args.text.now)) c.read_one.result c.read_one.ensures

pub returns-clause-spelled : goal.returns-clause-spelled
returns-clause-spelled c form is = is-ok (exact-form (chars c.args.text.now)) c.read_one.result c.read_one.ensures form is

pub returns-clause-faulty : goal.returns-clause-faulty
returns-clause-faulty c fault is = is-err (exact-form (chars c.args.text.now)) c.read_one.result c.read_one.ensures fault is
