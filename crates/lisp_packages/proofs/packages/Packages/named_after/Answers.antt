use Rattle.std.proofs.Common.{◌≡◌, Ok, sym, subst, rules, IfOk, IfErr}
use Rattle.lisp_packages.specs.Causes.{IsCause}
use Rattle.lisp_packages.specs.Made.{with_made}
use Rattle.lisp_packages.specs.Naming.{Named}
use Rattle.lisp_packages.proofs.TokenLemmas.{named-plain}
use Rattle.lisp_packages.proofs.packages.Packages.named_after.Goals as goal

pub returns-in-None-clause-ok : goal.returns-in-None-clause-ok
returns-in-None-clause-ok c = subst (λ (a : Named). IfOk c.interned_after.result (λ s. a ≡ Ok (with_made c.args.self.now c.interned_after.new.made, s))) (sym (named-plain (with_made c.args.self.now c.args.made.now) c.args.current c.args.token.now (search rules))) c.interned_after.ensures.ok

pub returns-in-None-clause-err : goal.returns-in-None-clause-err
returns-in-None-clause-err c = subst (λ (a : Named). IfErr c.interned_after.result (λ why. IsCause why a)) (sym (named-plain (with_made c.args.self.now c.args.made.now) c.args.current c.args.token.now (search rules))) c.interned_after.ensures.err
