-- Comparisons of whole numbers (HyperSpec 12.2, functions =, /=, <, >, <=, >=, MAX, MIN, EVENP, ODDP).
use Rattle.std.specs.Prelude.{◌%◌, ◌==◌, ◌&&◌, ℤ, int_lt, int_le, Bool, true, not, List, [], ◌∷◌, fold, unsigned_abs}
use Rattle.std.specs.Int.{int_min, int_max}
use Rattle.std.specs.Ordering.{int_eq}
use Rattle.lisp_numbers.specs.declared.order.Relation.{Relation}
use Rattle.lisp_numbers.specs.declared.order.Relation.TheVariants.{Equal, Unequal, Less, Greater, AtMost, AtLeast}

-- whether two numbers are in a relation
abbrev pub holds : Relation → ℤ → ℤ → Bool
holds Equal a b = int_eq a b
holds Unequal a b = not (int_eq a b)
holds Less a b = int_lt a b
holds Greater a b = int_lt b a
holds AtMost a b = int_le a b
holds AtLeast a b = int_le b a

-- whether each number and the one behind it are in a relation
abbrev pub neighbours_hold : Relation → ℤ → List ℤ → Bool
neighbours_hold relation first [] = true
neighbours_hold relation first (n ∷ ns) = holds relation first n && neighbours_hold relation n ns

-- the least and the greatest of numbers
abbrev pub least_of : ℤ → List ℤ → ℤ
least_of first others = fold int_min first others

abbrev pub greatest_of : ℤ → List ℤ → ℤ
greatest_of first others = fold int_max first others

-- whether a number is twice another
abbrev pub is_even : ℤ → Bool
is_even n = unsigned_abs n % 2 == 0
