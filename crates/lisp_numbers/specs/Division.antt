-- Division of whole numbers (HyperSpec 12.2, functions /, FLOOR, TRUNCATE, MOD and REM).
use Rattle.std.specs.Prelude.{suc, ◌/◌, Bool, true, false, ℤ, pos, negsuc, ◌-ℤ◌, ◌*ℤ◌, neg_ℤ, if◌then◌else◌}
use Rattle.std.specs.Int.{div_ceil}
use Rattle.std.specs.Ordering.{int_eq}
use Rattle.lisp_numbers.specs.declared.computed.Computed.{Computed}
use Rattle.lisp_numbers.specs.declared.computed.Computed.TheVariants.{ZeroDivisor, Inexact}
use Rattle.lisp_numbers.specs.Range.{ranged}

-- the quotient of two numbers rounded towards 0
abbrev pub truncated : ℤ → ℤ → ℤ
truncated (pos a) (pos b) = pos (a / b)
truncated (pos a) (negsuc b) = neg_ℤ (pos (a / suc b))
truncated (negsuc a) (pos b) = neg_ℤ (pos (suc a / b))
truncated (negsuc a) (negsuc b) = pos (suc a / suc b)

-- the quotient rounded down: where the signs differ it is below 0, and so its size is rounded up
abbrev pub floored : ℤ → ℤ → ℤ
floored (pos a) (pos b) = pos (a / b)
floored (pos a) (negsuc b) = neg_ℤ (pos (div_ceil a (suc b)))
floored (negsuc a) (pos b) = neg_ℤ (pos (div_ceil (suc a) b))
floored (negsuc a) (negsuc b) = pos (suc a / suc b)

-- what is left of a number behind the quotient times the divisor
abbrev pub left_by : (ℤ → ℤ → ℤ) → ℤ → ℤ → ℤ
left_by quotient a b = a -ℤ (quotient a b *ℤ b)

-- whether two numbers have opposite signs, where neither is 0
abbrev pub are_opposite : ℤ → ℤ → Bool
are_opposite (pos (suc a)) (negsuc b) = true
are_opposite (negsuc a) (pos (suc b)) = true
are_opposite _ _ = false

-- what is computed by a divisor, which is not to be 0
abbrev pub divided : ℤ → Computed → Computed
divided divisor computed = if int_eq divisor (pos 0) then ZeroDivisor else computed

abbrev pub floor_of : ℤ → ℤ → Computed
floor_of a b = divided b (ranged (floored a b))

abbrev pub mod_of : ℤ → ℤ → Computed
mod_of a b = divided b (ranged (left_by floored a b))

abbrev pub truncate_of : ℤ → ℤ → Computed
truncate_of a b = divided b (ranged (truncated a b))

abbrev pub rem_of : ℤ → ℤ → Computed
rem_of a b = divided b (ranged (left_by truncated a b))

-- the quotient where it is whole
abbrev pub quotient_of : ℤ → ℤ → Computed
quotient_of a b = divided b (if int_eq (left_by truncated a b) (pos 0) then ranged (truncated a b) else Inexact)
