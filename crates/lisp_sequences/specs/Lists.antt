-- The functions on lists, by their entries in chapter 14 of the HyperSpec (17 for REVERSE and SUBSEQ). A list is its items, and
-- NIL is the empty one.
use Rattle.std.specs.Prelude.{ℕ, zero, suc, ◌-◌, Bool, false, if◌then◌else◌, List, [], ◌∷◌, take, drop}
use Rattle.std.specs.List.{flat_map}
use Rattle.lisp_data.specs.declared.value.Value.{Value}
use Rattle.lisp_data.specs.declared.value.Value.TheOpen.{Value-F}
use Rattle.lisp_data.specs.declared.value.Value.TheVariants as value
use Rattle.lisp_data.specs.declared.value.Value.TheViews.{out-Value}
use Rattle.lisp_data.specs.declared.value.Condition.{Condition}
use Rattle.lisp_data.specs.Same.{same_value}

-- the first item, NIL where there is none (function CAR)
abbrev pub car : List Value → Value
car [] = value.List []
car (x ∷ xs) = x

-- the items after the first (function CDR)
abbrev pub cdr : List Value → List Value
cdr [] = []
cdr (x ∷ xs) = xs

-- CDR, this many times (function NTHCDR)
abbrev pub nthcdr : ℕ → List Value → List Value
nthcdr zero xs = xs
nthcdr (suc n) xs = nthcdr n (cdr xs)

-- the item at a place counted from 0, NIL past the end (function NTH)
abbrev pub nth : ℕ → List Value → Value
nth n xs = car (nthcdr n xs)

-- the list of the last item alone, NIL where there is none (function LAST)
abbrev pub last : List Value → List Value
last [] = []
last (x ∷ []) = x ∷ []
last (x ∷ y ∷ ys) = last (y ∷ ys)

-- the items of one level of a value, none where it is no list
abbrev pub items_at : Value-F Value Condition → List Value
items_at (Value-F.List xs) = xs
items_at _ = []

-- the items of a list
abbrev pub items_of : Value → List Value
items_of v = items_at (out-Value v)

-- the items of these lists, one list after the other (function APPEND)
abbrev pub append : List Value → List Value
append lists = flat_map items_of lists

-- the rest from the first item that is the same, NIL where there is none (function MEMBER)
abbrev pub member : Value → List Value → List Value
member item [] = []
member item (x ∷ xs) = if same_value x item then x ∷ xs else member item xs

-- whether one level of a value is a list whose first item is the same as a key
abbrev pub is_pair_of : Value → Value-F Value Condition → Bool
is_pair_of key (Value-F.List (x ∷ xs)) = same_value x key
is_pair_of key _ = false

-- the first item that is a list whose first item is the same, NIL where there is none (function ASSOC)
abbrev pub assoc : Value → List Value → Value
assoc key [] = value.List []
assoc key (x ∷ xs) = if is_pair_of key (out-Value x) then x else assoc key xs

-- the items from one place to before another (function SUBSEQ)
abbrev pub subseq : {A : Type 0} → ℕ → ℕ → List A → List A
subseq from to xs = take (to - from) (drop from xs)
