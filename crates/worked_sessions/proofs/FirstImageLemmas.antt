-- The standard packages, by computation. Elsewhere they stay shut, so that a step is small.
use Rattle.std.proofs.Common.{◌≡◌, refl, ℕ, List, codes}
use Rattle.std.specs.Prelude.{Some}
use Rattle.lisp_data.specs.declared.value.Value.{out-Value}
use Rattle.lisp_data.specs.declared.value.Value.TheVariants as value
use Rattle.lisp_packages.specs.Fresh.{standard_packages}
use Rattle.lisp_packages.specs.Packages.{place_of}
use Rattle.server_info.specs.Info.{info}
use Rattle.step_model.specs.CurrentPackage.{package_of}
use Rattle.swank_rpc.specs.Info.{connection_info}
use Rattle.worked_sessions.specs.FirstImage.{image}

abbrev pub user : List ℕ
user = codes "COMMON-LISP-USER"

pub user-place : place_of standard_packages user ≡ Some 1
unfolding standard_packages
user-place = refl

pub named-user : package_of standard_packages (Some (value.Str user)) ≡ user
unfolding standard_packages out-Value denote.Hole.Carrier.out
named-user = refl

pub info-first : connection_info image ≡ info user (codes "CL-USER")
unfolding standard_packages out-Value denote.Hole.Carrier.out
info-first = refl
