-- The test on types is reachability by direct parents.
use Rattle.std.proofs.Common.{◌≡◌, ℕ, ◌<◌, ◌≤◌, ◌↔◌, Bool, true, false, List, [], ◌∷◌, length, zero, suc, refl, sym, subst, arith, lit≤}
use Rattle.std.specs.Prelude.{Contains, ◌||◌, slice_index_or, Some}
use Rattle.std.specs.List.{list_any}
use Rattle.std.proofs.lemmas.Bool.{or_left, or_right}
use Rattle.std.proofs.lemmas.Slice.Eq.{bytes_eq-Decides}
use Rattle.lisp_data.specs.declared.type_id.TypeId.{TypeId}
use Rattle.lisp_data.specs.declared.type_id.TypeId.TheVariants as type
use Rattle.lisp_data.specs.Same.{same_type}
use Rattle.lisp_data.specs.TypeNames.{name_of}
use Rattle.lisp_types.specs.Types.{parents_of, IsA, itself, through}
use Rattle.lisp_types.proofs.TypesLemmas.{height_of, parent_lower, found_iff}
use Rattle.lisp_types.specs.Kinds.{leads_to, is_kind, type_by_name}

same_types : (a b : TypeId) → same_type a b ≡ true → a ≡ b
same_types a b e =
    let names : name_of a ≡ name_of b = (bytes_eq-Decides (name_of a) (name_of b)).0 e in
    let own = (found_iff (name_of a) a).1 refl in
    let other = (found_iff (name_of a) b).1 names in
    cc (own, other)

same_own : (a : TypeId) → same_type a a ≡ true
same_own a = (bytes_eq-Decides (name_of a) (name_of a)).1 refl

behind : (x y : TypeId) (xs : List TypeId) → Contains xs y → Contains (x ∷ xs) y
behind x y xs among = (suc among.0, omega (arith, among.1), among.2)

-- an item of the list that passes the test
record Passing (p : TypeId → Bool) (xs : List TypeId) : Type 0 where
  found : TypeId
  among : Contains xs found
  passes : p found ≡ true

later : (p : TypeId → Bool) (x : TypeId) (xs : List TypeId) → Passing p xs → Passing p (x ∷ xs)
later p x xs it = record { found = it.found; among = behind x it.found xs it.among; passes = it.passes }

passing_at : (b : Bool) (p : TypeId → Bool) (x : TypeId) (xs : List TypeId) → p x ≡ b → (list_any p xs ≡ true → Passing p xs) → b || list_any p xs ≡ true → Passing p (x ∷ xs)
passing_at true p x xs is more e = record { found = x; among = (0, omega arith, refl); passes = is }
passing_at false p x xs is more e = later p x xs (more e)

passing : (p : TypeId → Bool) (xs : List TypeId) → list_any p xs ≡ true → Passing p xs
passing p [] e = absurd (cc)
passing p (x ∷ xs) e = passing_at (p x) p x xs refl (passing p xs) e

any_at : (p : TypeId → Bool) (xs : List TypeId) (k : ℕ) (y : TypeId) → k < length xs → slice_index_or xs k y ≡ y → p y ≡ true → list_any p xs ≡ true
any_at p [] k y below is passes = absurd (omega arith)
any_at p (x ∷ xs) zero y below is passes = or_left (p x) (list_any p xs) (subst (λ z. p z ≡ true) (sym is) passes)
any_at p (x ∷ xs) (suc k) y below is passes = or_right (p x) (list_any p xs) (any_at p xs k y (omega arith) is passes)

chain_at : (t : Bool) (n : ℕ) (a b : TypeId) → same_type a b ≡ t → (list_any (λ parent. leads_to n parent b) (parents_of a) ≡ true → IsA a b) → t || list_any (λ parent. leads_to n parent b) (parents_of a) ≡ true → IsA a b
chain_at true n a b is more e = subst (IsA a) (same_types a b is) (itself a)
chain_at false n a b is more e = more e

chain_by : (n : ℕ) (a b : TypeId) → ((p : TypeId) → leads_to n p b ≡ true → IsA p b) → Passing (λ parent. leads_to n parent b) (parents_of a) → IsA a b
chain_by n a b up it = through a it.found b it.among (up it.found it.passes)

chain : (n : ℕ) (a b : TypeId) → leads_to n a b ≡ true → IsA a b
chain zero a b e = subst (IsA a) (same_types a b e) (itself a)
chain (suc n) a b e = chain_at (same_type a b) n a b refl (λ any. chain_by n a b (λ p. chain n p b) (passing (λ parent. leads_to n parent b) (parents_of a) any)) e

leads_itself : (n : ℕ) (t : TypeId) → leads_to n t t ≡ true
leads_itself zero t = same_own t
leads_itself (suc n) t = or_left (same_type t t) (list_any (λ parent. leads_to n parent t) (parents_of t)) (same_own t)

leads_through : (n : ℕ) (t p b : TypeId) → Contains (parents_of t) p → height_of t ≤ n → ((m : ℕ) → height_of p ≤ m → leads_to m p b ≡ true) → leads_to n t b ≡ true
leads_through zero t p b among low more =
    let lower : height_of p < height_of t = subst (λ q. height_of q < height_of t) among.2 (parent_lower t among.0 p among.1) in
    absurd (omega (arith, lower, low))
leads_through (suc n) t p b among low more =
    let lower : height_of p < height_of t = subst (λ q. height_of q < height_of t) among.2 (parent_lower t among.0 p among.1) in
    or_right (same_type t b) (list_any (λ parent. leads_to n parent b) (parents_of t)) (any_at (λ parent. leads_to n parent b) (parents_of t) among.0 p among.1 among.2 (more n (omega (arith, lower, low))))

led : (a b : TypeId) → IsA a b → (n : ℕ) → height_of a ≤ n → leads_to n a b ≡ true
led a b (itself t) n low = leads_itself n t
led a b (through t parent ancestor among is) n low = leads_through n t parent ancestor among low (led parent ancestor is)

low_enough : (t : TypeId) → height_of t ≤ 6
low_enough type.T = lit≤ tt
low_enough type.Condition = lit≤ tt
low_enough type.SeriousCondition = lit≤ tt
low_enough type.SimpleCondition = lit≤ tt
low_enough type.Warning = lit≤ tt
low_enough type.Error = lit≤ tt
low_enough type.StorageCondition = lit≤ tt
low_enough type.SimpleError = lit≤ tt
low_enough type.SimpleWarning = lit≤ tt
low_enough type.StyleWarning = lit≤ tt
low_enough type.ArithmeticError = lit≤ tt
low_enough type.CellError = lit≤ tt
low_enough type.ControlError = lit≤ tt
low_enough type.ProgramError = lit≤ tt
low_enough type.TypeError = lit≤ tt
low_enough type.DivisionByZero = lit≤ tt
low_enough type.UnboundVariable = lit≤ tt
low_enough type.UndefinedFunction = lit≤ tt
low_enough type.List = lit≤ tt
low_enough type.Symbol = lit≤ tt
low_enough type.String = lit≤ tt
low_enough type.Number = lit≤ tt
low_enough type.Cons = lit≤ tt
low_enough type.Null = lit≤ tt
low_enough type.Keyword = lit≤ tt
low_enough type.Integer = lit≤ tt

-- the test holds exactly where a chain of direct parents leads from one type to the other
pub is_kind_iff : (a b : TypeId) → (is_kind a b ≡ true) ↔ IsA a b
unfolding is_kind
is_kind_iff a b = (λ e. chain 6 a b e, λ is. led a b is 6 (low_enough a))

-- a type is found by its name, and by no other
pub type_by_name_iff : (name : List ℕ) (t : TypeId) → (type_by_name name ≡ Some t) ↔ (name ≡ name_of t)
unfolding type_by_name
type_by_name_iff name t = found_iff name t
