-- A step from the left.
use Rattle.std.proofs.Common.{◌≡◌, ℕ, ◌-◌, ◌≤◌, length, get_or, take, take_all, drop, arith, [], ℤ, Bool, true, false, List, ◌∷◌, refl}
use Rattle.std.specs.Prelude.{if◌then◌else◌}
use Rattle.lisp_numbers.specs.Range.{fits, ranged, from_left}
use Rattle.lisp_numbers.specs.declared.computed.Computed.TheVariants.{Number, OutOfRange}

stepped_at : (t : Bool) (op : ℤ → ℤ → ℤ) (start next n : ℤ) (ns : List ℤ) → fits (op start next) ≡ t → Number n ≡ (if t then Number (op start next) else OutOfRange) → from_left op n ns ≡ from_left op start (next ∷ ns)
stepped_at true op start next n ns test was = let same : n ≡ op start next = cc in rw (same, test) refl
stepped_at false op start next n ns test was = absurd (cc)

-- a result on the way that is in range stands for what came before it
pub stepped : (op : ℤ → ℤ → ℤ) (start next n : ℤ) (ns : List ℤ) → Number n ≡ ranged (op start next) → from_left op n ns ≡ from_left op start (next ∷ ns)
stepped op start next n ns was = stepped_at (fits (op start next)) op start next n ns refl was

-- the same at the front of the numbers that are left
pub stepped_in : (op : ℤ → ℤ → ℤ) (start n : ℤ) (rest : List ℤ) (d : ℤ) (m : ℕ) → 1 ≤ length rest → length rest - 1 ≤ m → Number n ≡ ranged (op start (get_or rest 0 d)) → from_left op n (take m (drop 1 rest)) ≡ from_left op start rest
stepped_in op start n [] d m some enough was = absurd (omega arith)
stepped_in op start n (x ∷ xs) d m some enough was = let whole : take m xs ≡ xs = take_all m xs (omega arith) in rw whole (stepped op start x n xs was)
