use Rattle.std.proofs.Common.{◌≡◌, ◌∙◌, ◌++◌, ◌∷◌, [], ap, subst, Some, length, arith}
use Rattle.lisp_packages.specs.Named.{HasNames}
use Rattle.lisp_packages.proofs.NamedLemmas.{HasNames-push}
use Rattle.lisp_packages.proofs.packages.Packages.push.Goals as goal

pub invariant_of-self-2 : goal.invariant_of-self-2
invariant_of-self-2 c =
    let len : c.len-place.result ≡ length c.as_slice.result.now = omega (arith, ap length c.as_slice.ensures.value) in
    rw c.in_ok-push.ensures.items (subst (λ ps. HasNames c.add_names.new.names (ps ++ c.args.package ∷ [])) c.as_slice.ensures.value
    (HasNames-push c.add_names.new.names c.as_slice.result.now c.args.package c.in_ok-add_names.ensures.names (λ t named none. c.in_ok-add_names.ensures.added t named none ∙ ap Some len)))
