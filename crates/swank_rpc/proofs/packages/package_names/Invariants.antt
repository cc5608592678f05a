use Rattle.std.proofs.Common.{◌≡◌, take}
use Rattle.swank_rpc.proofs.ListLemmas.{cut_names}
use Rattle.swank_rpc.proofs.packages.package_names.Given as goal

-- the names of the packages so far
abbrev pub invariant-loop-n : goal.invariant-loop-n
invariant-loop-n l = l.names ≡ cut_names (take l.n l.packages)
