use Rattle.std.proofs.Common.{sym, subst}
use Rattle.lisp_packages.specs.Making.{IsUndone}
use Rattle.lisp_packages.proofs.UndoneLemmas.{IsUndone-refl, IsUndone-with_own}
use Rattle.lisp_packages.proofs.packages.Packages.make_present.Goals as goal

pub returns-in_err-symbol-clause-undone : goal.returns-in_err-symbol-clause-undone
returns-in_err-symbol-clause-undone c = IsUndone-refl c.args.place c.args.self.now

pub returns-in_err-add-clause-undone : goal.returns-in_err-add-clause-undone
returns-in_err-add-clause-undone c = subst (IsUndone c.args.place c.args.self.now) (sym c.in_err-add.ensures.err) (IsUndone-refl c.args.place c.args.self.now)

pub returns-clause-undone : goal.returns-clause-undone
returns-clause-undone c = subst (IsUndone c.args.place c.args.self.now) (sym c.in_ok-add.ensures.ok) (IsUndone-with_own c.args.place c.args.self.now _)
