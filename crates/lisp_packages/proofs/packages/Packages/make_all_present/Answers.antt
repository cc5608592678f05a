use Rattle.std.proofs.Common.{◌≡◌, length, refl, arith}
use Rattle.std.proofs.lemmas.Grind.{common_steps}
use Rattle.lisp_packages.proofs.UndoneLemmas.{IsUndone-refl, IsUndone-trans, length-undone}
use Rattle.lisp_packages.proofs.packages.Packages.make_all_present.Goals as goal

pub loop-wanted-init : goal.loop-wanted-init
loop-wanted-init c = record { so_far = refl; undone = IsUndone-refl c.args.place c.args.self.now; within = c.requires }

pub returns-in-Err-clause-undone : goal.returns-in-Err-clause-undone
returns-in-Err-clause-undone c = IsUndone-trans c.args.place c.args.self.now c.loop-wanted.self c.make_present.new.self c.loop-wanted.invariant.undone c.make_present.ensures.undone

pub loop-wanted-preserved : goal.loop-wanted-preserved
loop-wanted-preserved c = record {
  so_far = grind (arith, common_steps);
  undone = IsUndone-trans c.args.place c.args.self.now c.loop-wanted.self c.make_present.new.self c.loop-wanted.invariant.undone c.make_present.ensures.undone;
  within =
      let same : length c.make_present.new.self ≡ length c.loop-wanted.self = length-undone c.args.place c.loop-wanted.self c.make_present.new.self c.make_present.ensures.undone in
      omega arith;
}
