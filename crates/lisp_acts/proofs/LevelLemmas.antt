-- Where no level may be opened none is.
use Rattle.std.proofs.Common.{◌≡◌, false, ap, arith, le-ltb}
use Rattle.std.specs.Prelude.{◌&&◌, nat_lt}
use Rattle.term_model.specs.Breaks.{max_levels, may_open}
use Rattle.term_model.specs.Room.{levels}
use Rattle.term_model.specs.Term.{Context}

pub none_opened : (c : Context) → may_open 0 c ≡ false
none_opened c = ap (λ b. b && nat_lt (levels c) max_levels) (le-ltb (levels c) 0 (omega arith))
