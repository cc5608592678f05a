-- What an equation of optional values says.
use Rattle.std.proofs.Common.{◌≡◌, Some, None}

pub none≢some : {X : Type 0} {x : X} → None ≡ Some x → ⊥
none≢some e = absurd (cc)

pub some_is : {X : Type 0} {x y : X} → Some x ≡ Some y → x ≡ y
some_is e = cc
