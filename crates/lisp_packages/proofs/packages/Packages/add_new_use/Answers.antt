use Rattle.std.proofs.Common.{sym, subst}
use Rattle.lisp_packages.specs.Making.{IsUndone}
use Rattle.lisp_packages.proofs.UndoneLemmas.{IsUndone-refl, IsUndone-with_uses}
use Rattle.lisp_packages.proofs.packages.Packages.add_new_use.Goals as goal

pub returns-then-does_use-clause-undone : goal.returns-then-does_use-clause-undone
returns-then-does_use-clause-undone c = IsUndone-refl c.args.place c.args.self.now

pub returns-in_err-add_use-clause-undone : goal.returns-in_err-add_use-clause-undone
returns-in_err-add_use-clause-undone c = subst (IsUndone c.args.place c.args.self.now) (sym c.in_err-add_use.ensures.err) (IsUndone-refl c.args.place c.args.self.now)

pub returns-clause-undone : goal.returns-clause-undone
returns-clause-undone c = subst (IsUndone c.args.place c.args.self.now) (sym c.in_ok-add_use.ensures.ok) (IsUndone-with_uses c.args.place c.args.self.now _)
