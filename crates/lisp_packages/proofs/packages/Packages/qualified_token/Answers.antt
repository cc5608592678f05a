use Rattle.std.proofs.Common.{◌≡◌, ◌∙◌, ℕ, Ok, None, Some, ap, sym, subst, rules, IfOk, IfErr}
use Rattle.lisp_packages.specs.Causes.{IsCause, refusal_of}
use Rattle.lisp_packages.specs.Made.{with_made}
use Rattle.lisp_packages.specs.Naming.{Named, qualified}
use Rattle.lisp_packages.specs.Packages.{place_of}
use Rattle.lisp_packages.specs.declared.fault.NameFault.TheVariants.{NoPackage}
use Rattle.lisp_packages.proofs.MadeLemmas.{in_named-there, in_named-absent}
use Rattle.lisp_packages.proofs.packages.Packages.qualified_token.Goals as goal

pub returns-in-Some-clause-ok : goal.returns-in-Some-clause-ok
returns-in-Some-clause-ok c =
    let there : place_of c.args.self.now c.args.prefix.now ≡ Some c.in-Some.place = search rules in
    subst (λ (a : Named). IfOk c.qualified_after.result (λ s. a ≡ Ok (with_made c.args.self.now c.qualified_after.new.made, s)))
    (sym (in_named-there c.args.self.now c.args.made.now c.args.prefix.now (λ (i : ℕ). qualified (with_made c.args.self.now c.args.made.now) i c.args.rest.now) c.in-Some.place there)) c.qualified_after.ensures.ok

pub returns-in-Some-clause-err : goal.returns-in-Some-clause-err
returns-in-Some-clause-err c =
    let there : place_of c.args.self.now c.args.prefix.now ≡ Some c.in-Some.place = search rules in
    subst (λ (a : Named). IfErr c.qualified_after.result (λ why. IsCause why a))
    (sym (in_named-there c.args.self.now c.args.made.now c.args.prefix.now (λ (i : ℕ). qualified (with_made c.args.self.now c.args.made.now) i c.args.rest.now) c.in-Some.place there)) c.qualified_after.ensures.err

pub returns-in_ok-of-in-None-clause-err : goal.returns-in_ok-of-in-None-clause-err
returns-in_ok-of-in-None-clause-err c =
    let absent : place_of c.args.self.now c.args.prefix.now ≡ None = search rules in
    ap refusal_of (in_named-absent c.args.self.now c.args.made.now c.args.prefix.now (λ (i : ℕ). qualified (with_made c.args.self.now c.args.made.now) i c.args.rest.now) absent) ∙ (λ k. Some (NoPackage (sym c.in_ok-of-in-None.ensures k)))
