use Rattle.std.proofs.Common.{◌∙◌, ap, sym, Some, slice_get}
use Rattle.lisp_packages.proofs.PackagesLemmas.{slice_get-with_uses-other}
use Rattle.lisp_packages.proofs.packages.Packages.use_at.Goals as goal

pub returns-clause-others : goal.returns-clause-others
returns-clause-others c = λ k other. ap (λ ps. slice_get ps k) c.in_ok-add_use.ensures.ok ∙ slice_get-with_uses-other c.args.self.now k c.args.place _ (λ e. other (ap Some (sym e)))
