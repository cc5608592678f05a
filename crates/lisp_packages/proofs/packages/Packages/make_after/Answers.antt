use Rattle.std.proofs.Common.{◌≡◌, ◌∙◌, ap, sym, Ok, Some, true, false, rules}
use Rattle.std.specs.Str.{bytes_eq}
use Rattle.lisp_data.specs.Symbols.{common_lisp}
use Rattle.lisp_packages.specs.Causes.{refusal_of}
use Rattle.lisp_packages.specs.Made.{with_made}
use Rattle.lisp_packages.specs.declared.fault.NameFault.TheVariants.{NotExternal}
use Rattle.lisp_packages.proofs.MadeLemmas.{has_made-absent, made_symbol-refused, made_symbol-made}
use Rattle.lisp_packages.proofs.packages.Packages.make_after.Goals as goal

pub returns-then-eq-clause-err : goal.returns-then-eq-clause-err
returns-then-eq-clause-err c =
    let same : bytes_eq c.get-package.result.now.name common_lisp ≡ true = search rules in
    ap refusal_of (made_symbol-refused c.args.self.now c.args.made.now c.args.place c.args.name.now c.get-package.result.now c.get-package.ensures same)
    ∙ (λ k. Some (NotExternal (sym c.in_ok-of.ensures k) (sym c.in_ok-copy.ensures k)))

pub add-requires : goal.add-requires
add-requires c = has_made-absent c.args.self.now c.args.made.now c.args.place c.args.name.now c.get-package.result.now c.get-package.ensures c.requires.new

pub returns-clause-ok : goal.returns-clause-ok
returns-clause-ok c =
    let other : bytes_eq c.get-package.result.now.name common_lisp ≡ false = search rules in
    made_symbol-made c.args.self.now c.args.made.now c.args.place c.args.name.now c.get-package.result.now c.get-package.ensures other
    ∙ (λ k. Ok (with_made c.args.self.now (sym c.in_ok-add.ensures k), (sym c.in_ok-entry.ensures k).symbol))
