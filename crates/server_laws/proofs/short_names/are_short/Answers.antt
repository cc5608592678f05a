use Rattle.std.proofs.Common.{◌≡◌, ◌&&◌, false, true, length, None, Some, arith, rules, slice_get}
use Rattle.std.specs.Prelude.{nat_le, option_map}
use Rattle.lisp_packages.specs.declared.lisp_package.Package.{Package}
use Rattle.server_laws.specs.Small.{max_name}
use Rattle.server_laws.proofs.ShortNames.{passed-all, passed-long, passed-more, passed-none}
use Rattle.swank_rpc.specs.Info.{prompt}
use Rattle.server_laws.proofs.short_names.are_short.Goals as goal

pub loop-n-init : goal.loop-n-init
loop-n-init c = passed-none c.args.packages.now

pub returns-in_default : goal.returns-in_default
returns-in_default c =
    let none : None ≡ option_map (λ (p : Package). p.name) (slice_get c.args.packages.now c.loop-n.n) = search rules in
    passed-all c.args.packages.now c.loop-n.n c.loop-n.has_user (omega arith) c.loop-n.invariant none

pub returns-then-not-is_short : goal.returns-then-not-is_short
returns-then-not-is_short c =
    let there : Some c.in-Some.name.now ≡ option_map (λ (p : Package). p.name) (slice_get c.args.packages.now c.loop-n.n) = search rules in
    let long : (nat_le (length c.in-Some.name.now) max_name && nat_le (length (prompt c.args.packages.now c.in-Some.name.now)) max_name) ≡ false = search rules in
    passed-long c.args.packages.now c.loop-n.n c.in-Some.name.now there long

pub loop-n-preserved : goal.loop-n-preserved
loop-n-preserved c =
    let there : Some c.in-Some.name.now ≡ option_map (λ (p : Package). p.name) (slice_get c.args.packages.now c.loop-n.n) = search rules in
    let short : (nat_le (length c.in-Some.name.now) max_name && nat_le (length (prompt c.args.packages.now c.in-Some.name.now)) max_name) ≡ true = search rules in
    rw c.is_user-has_user.ensures (passed-more c.args.packages.now c.loop-n.n c.loop-n.has_user c.in-Some.name.now c.loop-n.invariant there short)
