use Rattle.std.proofs.Common.{◌≡◌, ◌∙◌, None, sym, rules}
use Rattle.lisp_packages.specs.Entries.{entry_of}
use Rattle.lisp_packages.specs.Made.{with_made}
use Rattle.lisp_packages.specs.Packages.{own_at}
use Rattle.lisp_packages.proofs.MadeLemmas.{accessible-inherited}
use Rattle.lisp_packages.proofs.packages.Packages.accessible_after.Goals as goal

pub returns : goal.returns
returns c =
    let none : entry_of (own_at (with_made c.args.self.now c.args.made.now) c.args.place) c.args.name.now ≡ None = search rules in
    c.in_ok-found.ensures ∙ sym (accessible-inherited c.args.self.now c.args.made.now c.args.place c.args.name.now none)
