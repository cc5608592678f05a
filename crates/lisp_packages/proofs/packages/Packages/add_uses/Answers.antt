use Rattle.std.proofs.Common.{◌≡◌, length, refl, arith}
use Rattle.std.proofs.lemmas.Grind.{common_steps}
use Rattle.lisp_packages.proofs.UndoneLemmas.{IsUndone-refl, IsUndone-trans, length-undone}
use Rattle.lisp_packages.proofs.packages.Packages.add_uses.Goals as goal

pub loop-used-init : goal.loop-used-init
loop-used-init c = record { so_far = refl; undone = IsUndone-refl c.args.place c.args.self.now; within = c.requires }

pub returns-in_err-add_new_use-clause-undone : goal.returns-in_err-add_new_use-clause-undone
returns-in_err-add_new_use-clause-undone c = IsUndone-trans c.args.place c.args.self.now c.loop-used.self c.add_new_use.new.self c.loop-used.invariant.undone c.add_new_use.ensures.undone

pub loop-used-preserved : goal.loop-used-preserved
loop-used-preserved c = record {
  so_far = grind (arith, common_steps);
  undone = IsUndone-trans c.args.place c.args.self.now c.loop-used.self c.add_new_use.new.self c.loop-used.invariant.undone c.add_new_use.ensures.undone;
  within =
      let same : length c.add_new_use.new.self ≡ length c.loop-used.self = length-undone c.args.place c.loop-used.self c.add_new_use.new.self c.add_new_use.ensures.undone in
      omega arith;
}
