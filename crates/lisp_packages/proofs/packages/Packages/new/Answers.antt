use Rattle.std.proofs.Common.{◌≡◌, ◌∙◌, sym, map, arith}
use Rattle.lisp_packages.specs.declared.names.TheConstants.{STANDARD_NAMES}
use Rattle.lisp_packages.specs.Fresh.{fresh_packages, standard_packages-is}
use Rattle.std.proofs.lemmas.Grind.{common_steps}
use Rattle.lisp_packages.proofs.packages.Packages.new.Goals as goal

pub returns : goal.returns
returns c =
    let built : c.push-6.new.self ≡ fresh_packages (map (λ name. name.now) STANDARD_NAMES) = grind (arith, common_steps) in
    built ∙ sym standard_packages-is
