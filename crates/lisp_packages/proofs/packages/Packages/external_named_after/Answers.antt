use Rattle.std.proofs.Common.{◌≡◌, ◌∙◌, ap, sym, None, Some, rules}
use Rattle.lisp_packages.specs.Causes.{refusal_of}
use Rattle.lisp_packages.specs.Made.{with_made}
use Rattle.lisp_packages.specs.Packages.{external_at}
use Rattle.lisp_packages.specs.declared.fault.NameFault.TheVariants.{NotExternal}
use Rattle.lisp_packages.proofs.MadeLemmas.{external_named-refused}
use Rattle.lisp_packages.proofs.packages.Packages.external_named_after.Goals as goal

pub returns-in_ok-copy-in-None-clause-err : goal.returns-in_ok-copy-in-None-clause-err
returns-in_ok-copy-in-None-clause-err c =
    let none : external_at (with_made c.args.self.now c.args.made.now) c.args.place c.args.name.now ≡ None = search rules in
    ap refusal_of (external_named-refused c.args.self.now c.args.made.now c.args.place c.args.name.now c.get.result.now c.get.ensures none)
    ∙ (λ k. Some (NotExternal (sym c.in_ok-name-in-None.ensures k) (sym c.in_ok-copy-in-None.ensures k)))
