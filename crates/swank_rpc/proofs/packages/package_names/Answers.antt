use Rattle.std.proofs.Common.{◌≡◌, ◌∙◌, ◌++◌, [], ◌∷◌, None, Some, add-one, ap, arith, rules, slice_get, sym}
use Rattle.std.specs.Prelude.{option_map}
use Rattle.lisp_data.specs.declared.sexp.Sexp.TheVariants as form
use Rattle.lisp_packages.specs.declared.lisp_package.Package.{Package}
use Rattle.rpc_messages.specs.Cut.{cut}
use Rattle.swank_rpc.proofs.ListLemmas.{cut_names, more-names, no-more-names}
use Rattle.swank_rpc.proofs.packages.package_names.Goals as goal

pub returns-in_default : goal.returns-in_default
returns-in_default c =
    let none : None ≡ option_map (λ (p : Package). p.name) (slice_get c.args.packages.now c.loop-n.n) = search rules in
    ap form.List (c.loop-n.invariant ∙ ap cut_names (sym (no-more-names c.args.packages.now 1000 c.loop-n.n none (omega arith))))

pub loop-n-preserved : goal.loop-n-preserved
loop-n-preserved c =
    let there : Some c.in-Some.name.now ≡ option_map (λ (p : Package). p.name) (slice_get c.args.packages.now c.loop-n.n) = search rules in
    let more = more-names c.args.packages.now c.loop-n.n c.in-Some.name.now there in
    rw add-one (c.in_ok-push.ensures.ok ∙ (λ k. c.loop-n.invariant k ++ form.Str ((c.in_ok-name.ensures ∙ ap cut c.as_str.ensures.value) k) ∷ []) ∙ sym more)
