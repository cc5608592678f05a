-- What arithmetic comes to: a number that 64 bits hold, or the reason why there is none (HyperSpec 12.2).
use Rattle.std.specs.Prelude.{◌^◌, ℤ, pos, negsuc, ◌+ℤ◌, ◌-ℤ◌, ◌*ℤ◌, neg_ℤ, nat_lt, Bool, if◌then◌else◌, List, [], ◌∷◌, fold, unsigned_abs}
use Rattle.std.specs.List.{list_all}
use Rattle.lisp_numbers.specs.declared.computed.Computed.{Computed}
use Rattle.lisp_numbers.specs.declared.computed.Computed.TheVariants.{Number, OutOfRange}
use Rattle.lisp_numbers.specs.declared.many.Operation.{Operation}
use Rattle.lisp_numbers.specs.declared.many.Operation.TheVariants.{Add, Subtract, Multiply}

-- whether 64 bits hold a number with its sign
abbrev pub fits : ℤ → Bool
fits (pos n) = nat_lt n (2 ^ 63)
fits (negsuc n) = nat_lt n (2 ^ 63)

-- a number where 64 bits hold it, else out of range
abbrev pub ranged : ℤ → Computed
ranged n = if fits n then Number n else OutOfRange

-- an operation on two numbers
abbrev pub result_of : Operation → ℤ → ℤ → ℤ
result_of Add a b = a +ℤ b
result_of Subtract a b = a -ℤ b
result_of Multiply a b = a *ℤ b

-- the results on the way from the left, each of the one before and the next number
abbrev pub results : (ℤ → ℤ → ℤ) → ℤ → List ℤ → List ℤ
results op start [] = []
results op start (n ∷ ns) = op start n ∷ results op (op start n) ns

-- the last of these results, which is out of range where 64 bits do not hold one of them
abbrev pub from_left : (ℤ → ℤ → ℤ) → ℤ → List ℤ → Computed
from_left op start ns = if list_all fits (results op start ns) then Number (fold op start ns) else OutOfRange

-- the sum, 0 of no numbers (HyperSpec 12.2, function +)
abbrev pub sum_of : List ℤ → Computed
sum_of ns = from_left (result_of Add) (pos 0) ns

-- the product, 1 of no numbers (HyperSpec 12.2, function *)
abbrev pub product_of : List ℤ → Computed
product_of ns = from_left (result_of Multiply) (pos 1) ns

-- the negation of one number, and of more the first less the others (HyperSpec 12.2, function -)
abbrev pub difference_of : ℤ → List ℤ → Computed
difference_of first [] = ranged (neg_ℤ first)
difference_of first (n ∷ ns) = from_left (result_of Subtract) first (n ∷ ns)

-- the size of a number (HyperSpec 12.2, function ABS)
abbrev pub absolute_of : ℤ → Computed
absolute_of n = ranged (pos (unsigned_abs n))

-- one more, and one less (HyperSpec 12.2, functions 1+ and 1-)
abbrev pub successor_of : ℤ → Computed
successor_of n = ranged (n +ℤ pos 1)

abbrev pub predecessor_of : ℤ → Computed
predecessor_of n = ranged (n -ℤ pos 1)
