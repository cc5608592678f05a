use Rattle.std.proofs.Common.{◌≡◌, length, arith}
use Rattle.lisp_packages.proofs.UndoneLemmas.{length-undone, IsUndone-trans}
use Rattle.lisp_packages.proofs.packages.Packages.extend_on.Goals as goal

pub make_all_present-requires : goal.make_all_present-requires
make_all_present-requires c =
    let same : length c.add_uses.new.self ≡ length c.args.self.now = length-undone c.args.place c.args.self.now c.add_uses.new.self c.in_ok-add_uses.ensures.undone in
    omega arith

pub returns-in-Err-clause-undone : goal.returns-in-Err-clause-undone
returns-in-Err-clause-undone c = IsUndone-trans c.args.place c.args.self.now c.add_uses.new.self c.make_all_present.new.self c.in_ok-add_uses.ensures.undone c.in-Err.ensures.undone

pub clashes_once_extended-requires : goal.clashes_once_extended-requires
clashes_once_extended-requires c =
    let same : length c.add_uses.new.self ≡ length c.args.self.now = length-undone c.args.place c.args.self.now c.add_uses.new.self c.in_ok-add_uses.ensures.undone in
    let again : length c.make_all_present.new.self ≡ length c.add_uses.new.self = length-undone c.args.place c.add_uses.new.self c.make_all_present.new.self c.in-Ok.ensures.undone in
    omega arith

pub returns-then-clashes_once_extended-clause-undone : goal.returns-then-clashes_once_extended-clause-undone
returns-then-clashes_once_extended-clause-undone c =
    IsUndone-trans c.args.place c.args.self.now c.add_uses.new.self c.make_all_present.new.self c.in_ok-add_uses.ensures.undone c.in-Ok.ensures.undone
