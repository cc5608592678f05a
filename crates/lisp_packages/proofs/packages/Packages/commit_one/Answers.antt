use Rattle.std.proofs.Common.{◌≡◌, ◌≤◌, Some, slice_get, length, rules}
use Rattle.std.specs.String.{string_bytes}
use Rattle.lisp_packages.proofs.MadeLemmas.{with_made_at-past}
use Rattle.lisp_packages.proofs.packages.Packages.commit_one.Goals as goal

pub returns-then-fresh-count-clause-ok : goal.returns-then-fresh-count-clause-ok
returns-then-fresh-count-clause-ok c =
    let there : slice_get c.args.made.now c.args.n ≡ Some (c.in-Some.fresh.now.place, string_bytes c.in-Some.fresh.now.name) = search rules in
    let past : length c.args.self.now ≤ c.in-Some.fresh.now.place = search rules in
    with_made_at-past c.args.self.now c.args.made.now c.args.n c.in-Some.fresh.now.place (string_bytes c.in-Some.fresh.now.name) there past
