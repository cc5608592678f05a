use Rattle.std.proofs.Common.{◌≡◌, ◌∙◌, ℕ, Ok, None, Some, ap, sym, subst, rules, IfOk, IfErr}
use Rattle.lisp_data.specs.Symbols.{keyword_package}
use Rattle.lisp_packages.specs.Causes.{IsCause, refusal_of}
use Rattle.lisp_packages.specs.Made.{with_made}
use Rattle.lisp_packages.specs.Naming.{Named, keyword_named}
use Rattle.lisp_packages.specs.Packages.{place_of}
use Rattle.lisp_packages.specs.declared.fault.NameFault.TheVariants.{NoPackage}
use Rattle.lisp_packages.proofs.MadeLemmas.{in_named-there, in_named-absent}
use Rattle.lisp_packages.proofs.packages.Packages.keyword_token.Goals as goal

pub returns-in-Some-clause-ok : goal.returns-in-Some-clause-ok
returns-in-Some-clause-ok c =
    let there : place_of c.args.self.now keyword_package ≡ Some c.in-Some.place = search rules in
    subst (λ (a : Named). IfOk c.keyword_after.result (λ s. a ≡ Ok (with_made c.args.self.now c.keyword_after.new.made, s)))
    (sym (in_named-there c.args.self.now c.args.made.now keyword_package (λ (i : ℕ). keyword_named (with_made c.args.self.now c.args.made.now) i c.args.name.now) c.in-Some.place there)) c.keyword_after.ensures.ok

pub returns-in-Some-clause-err : goal.returns-in-Some-clause-err
returns-in-Some-clause-err c =
    let there : place_of c.args.self.now keyword_package ≡ Some c.in-Some.place = search rules in
    subst (λ (a : Named). IfErr c.keyword_after.result (λ why. IsCause why a))
    (sym (in_named-there c.args.self.now c.args.made.now keyword_package (λ (i : ℕ). keyword_named (with_made c.args.self.now c.args.made.now) i c.args.name.now) c.in-Some.place there)) c.keyword_after.ensures.err

pub returns-in_ok-of-in-None-clause-err : goal.returns-in_ok-of-in-None-clause-err
returns-in_ok-of-in-None-clause-err c =
    let absent : place_of c.args.self.now keyword_package ≡ None = search rules in
    ap refusal_of (in_named-absent c.args.self.now c.args.made.now keyword_package (λ (i : ℕ). keyword_named (with_made c.args.self.now c.args.made.now) i c.args.name.now) absent) ∙ (λ k. Some (NoPackage (sym c.in_ok-of-in-None.ensures k)))
