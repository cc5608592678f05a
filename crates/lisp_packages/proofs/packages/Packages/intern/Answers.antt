use Rattle.std.proofs.Common.{sym, subst}
use Rattle.lisp_packages.specs.Changes.{KeepsOthers}
use Rattle.lisp_packages.proofs.packages.Packages.intern.Goals as goal

pub returns-clause-others : goal.returns-clause-others
returns-clause-others c = subst (λ p. KeepsOthers p c.args.self.now c.intern_at.new.self) (sym c.in_ok-place.ensures.ok) c.intern_at.ensures.others
