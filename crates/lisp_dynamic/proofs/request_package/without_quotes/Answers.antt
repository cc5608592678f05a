use Rattle.std.proofs.Common.{◌∙◌, ◌++◌, ap, sym}
use Rattle.std.specs.Prelude.{codes}
use Rattle.lisp_dynamic.proofs.NameLemmas.{unquoted}
use Rattle.lisp_dynamic.proofs.request_package.without_quotes.Goals as goal

pub returns-in-None-strip_suffix : goal.returns-in-None-strip_suffix
returns-in-None-strip_suffix c =
    let p = c.in-Some.ensures.cases in
    unquoted c.args.text.now c.in-Some.rest.now (p.1.1 ∙ ap (λ r. codes "\"" ++ r) (sym p.2)) c.in-None-strip_suffix.ensures.cases
