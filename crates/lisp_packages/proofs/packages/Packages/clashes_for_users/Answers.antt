use Rattle.std.proofs.Common.{◌≡◌, ◌<◌, true, false, length, rules}
use Rattle.lisp_packages.specs.Packages.{clashes_for_user, clashes_for_users}
use Rattle.lisp_packages.proofs.LoopLemmas.{place-found, place-next}
use Rattle.lisp_packages.proofs.packages.Packages.clashes_for_users.Goals as goal

pub returns-then-clashes_for_user : goal.returns-then-clashes_for_user
returns-then-clashes_for_user c =
    let within : c.loop-user.user < length c.args.self.now = search rules in
    let found : clashes_for_user c.args.self.now c.args.place c.args.symbol.now c.loop-user.user ≡ true = search rules in
    place-found (clashes_for_user c.args.self.now c.args.place c.args.symbol.now) c.args.self.now c.loop-user.user (clashes_for_users c.args.self.now c.args.place c.args.symbol.now) within c.loop-user.invariant found

pub loop-user-preserved : goal.loop-user-preserved
loop-user-preserved c =
    let within : c.loop-user.user < length c.args.self.now = search rules in
    let other : clashes_for_user c.args.self.now c.args.place c.args.symbol.now c.loop-user.user ≡ false = search rules in
    place-next (clashes_for_user c.args.self.now c.args.place c.args.symbol.now) c.args.self.now c.loop-user.user (clashes_for_users c.args.self.now c.args.place c.args.symbol.now) within c.loop-user.invariant other
