use Rattle.std.proofs.Common.{chars}
use Rattle.sexp_reader.proofs.Exact.{exact-forms, ok-is, err-is, is-ok, is-err, never-is}
use Rattle.sexp_reader.proofs.read.read_all.Goals as goal

pub returns-clause-read : goal.returns-clause-read
returns-clause-read c = ok-is (exact-forms (chars c.args.text.now)) c.read.result c.read.ensures

pub returns-clause-refused : goal.returns-clause-refused
returns-clause-refused c = err-is (exact-forms (chars c.args.text.now)) c.read.result c.read.ensures

pub returns-clause-spelled : goal.returns-clause-spelled
returns-clause-spelled c forms is = is-ok (exact-forms (chars c.args.text.now)) c.read.result c.read.ensures forms is

pub returns-clause-faulty : goal.returns-clause-faulty
returns-clause-faulty c fault is = is-err (exact-forms (chars c.args.text.now)) c.read.result c.read.ensures fault is

pub returns-clause-never : goal.returns-clause-never
returns-clause-never c = never-is (exact-forms (chars c.args.text.now)) c.read.result c.read.ensures
