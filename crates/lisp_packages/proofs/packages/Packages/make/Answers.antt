use Rattle.std.proofs.Common.{◌≡◌, ◌++◌, ◌∷◌, [], Ok, length, arith}
use Rattle.std.proofs.lemmas.Grind.{common_steps}
use Rattle.lisp_packages.specs.Making.{new_package, extended}
use Rattle.lisp_packages.proofs.MakingLemmas.{made-others}
use Rattle.lisp_packages.proofs.packages.Packages.make.Goals as goal

pub returns-in-Ok-clause-others : goal.returns-in-Ok-clause-others
returns-in-Ok-clause-others c =
    let made : extended (c.args.self.now ++ new_package c.args.name.now ∷ []) (length c.args.self.now) c.args.places.now c.args.names.now ≡ Ok c.extend.new.self = grind (arith, common_steps) in
    made-others c.args.self.now c.args.name.now c.args.places.now c.args.names.now c.extend.new.self made
