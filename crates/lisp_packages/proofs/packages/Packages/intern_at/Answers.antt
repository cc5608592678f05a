use Rattle.std.proofs.Common.{◌∙◌, ap, sym, Some, slice_get}
use Rattle.lisp_packages.proofs.MadeLemmas.{slice_get-with_own-other}
use Rattle.lisp_packages.proofs.packages.Packages.intern_at.Goals as goal

pub returns-clause-others : goal.returns-clause-others
returns-clause-others c = λ k other. ap (λ ps. slice_get ps k) c.in_ok-add.ensures.ok ∙ slice_get-with_own-other c.args.self.now k c.args.place _ (λ e. other (ap Some (sym e)))
