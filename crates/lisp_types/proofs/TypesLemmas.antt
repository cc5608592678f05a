-- Parents stand lower than their children, and each type is found under its name.
use Rattle.std.proofs.Common.{◌≡◌, ℕ, ◌<◌, ◌↔◌, Bool, true, false, cond, List, [], ◌∷◌, length, zero, suc, refl, sym, subst, arith}
use Rattle.std.specs.Prelude.{slice_index_or, nat_lt, Option, Some}
use Rattle.std.specs.List.{find, list_all}
use Rattle.std.specs.Str.{bytes_eq}
use Rattle.std.proofs.lemmas.Bool.{and_parts, ltb-true}
use Rattle.std.proofs.lemmas.Slice.Eq.{bytes_eq-Decides}
use Rattle.lisp_data.specs.declared.type_id.TypeId.{TypeId}
use Rattle.lisp_data.specs.declared.type_id.TypeId.TheVariants as type
use Rattle.lisp_types.specs.declared.TheConstants.{ALL}
use Rattle.lisp_data.specs.TypeNames.{name_of}
use Rattle.lisp_types.specs.Types.{parents_of}

-- the longest chain of direct parents from a type
abbrev pub height_of : TypeId → ℕ
height_of type.T = 0
height_of type.Condition = 1
height_of type.SeriousCondition = 2
height_of type.SimpleCondition = 2
height_of type.Warning = 2
height_of type.Error = 3
height_of type.StorageCondition = 3
height_of type.SimpleError = 4
height_of type.SimpleWarning = 3
height_of type.StyleWarning = 3
height_of type.ArithmeticError = 4
height_of type.CellError = 4
height_of type.ControlError = 4
height_of type.ProgramError = 4
height_of type.TypeError = 4
height_of type.DivisionByZero = 5
height_of type.UnboundVariable = 5
height_of type.UndefinedFunction = 5
height_of type.List = 1
height_of type.Symbol = 1
height_of type.String = 1
height_of type.Number = 1
height_of type.Cons = 2
height_of type.Null = 2
height_of type.Keyword = 2
height_of type.Integer = 2

parents_lower : (t : TypeId) → list_all (λ p. nat_lt (height_of p) (height_of t)) (parents_of t) ≡ true
parents_lower type.T = refl
parents_lower type.Condition = refl
parents_lower type.SeriousCondition = refl
parents_lower type.SimpleCondition = refl
parents_lower type.Warning = refl
parents_lower type.Error = refl
parents_lower type.StorageCondition = refl
parents_lower type.SimpleError = refl
parents_lower type.SimpleWarning = refl
parents_lower type.StyleWarning = refl
parents_lower type.ArithmeticError = refl
parents_lower type.CellError = refl
parents_lower type.ControlError = refl
parents_lower type.ProgramError = refl
parents_lower type.TypeError = refl
parents_lower type.DivisionByZero = refl
parents_lower type.UnboundVariable = refl
parents_lower type.UndefinedFunction = refl
parents_lower type.List = refl
parents_lower type.Symbol = refl
parents_lower type.String = refl
parents_lower type.Number = refl
parents_lower type.Cons = refl
parents_lower type.Null = refl
parents_lower type.Keyword = refl
parents_lower type.Integer = refl

lower_at : (h : ℕ) (ps : List TypeId) (k : ℕ) (d : TypeId) → list_all (λ p. nat_lt (height_of p) h) ps ≡ true → k < length ps → height_of (slice_index_or ps k d) < h
lower_at h [] k d all below = absurd (omega arith)
lower_at h (p ∷ ps) zero d all below = ltb-true _ _ (and_parts (nat_lt (height_of p) h) (list_all (λ q. nat_lt (height_of q) h) ps) all).0
lower_at h (p ∷ ps) (suc k) d all below = lower_at h ps k d (and_parts (nat_lt (height_of p) h) (list_all (λ q. nat_lt (height_of q) h) ps) all).1 (omega arith)

-- each direct parent of a type stands lower than it
pub parent_lower : (t : TypeId) (k : ℕ) (d : TypeId) → k < length (parents_of t) → height_of (slice_index_or (parents_of t) k d) < height_of t
parent_lower t k d = lower_at (height_of t) (parents_of t) k d (parents_lower t)

found_own : (t : TypeId) → find (λ u. bytes_eq (name_of u) (name_of t)) ALL ≡ Some t
found_own type.T = refl
found_own type.Condition = refl
found_own type.SeriousCondition = refl
found_own type.SimpleCondition = refl
found_own type.Warning = refl
found_own type.Error = refl
found_own type.StorageCondition = refl
found_own type.SimpleError = refl
found_own type.SimpleWarning = refl
found_own type.StyleWarning = refl
found_own type.ArithmeticError = refl
found_own type.CellError = refl
found_own type.ControlError = refl
found_own type.ProgramError = refl
found_own type.TypeError = refl
found_own type.DivisionByZero = refl
found_own type.UnboundVariable = refl
found_own type.UndefinedFunction = refl
found_own type.List = refl
found_own type.Symbol = refl
found_own type.String = refl
found_own type.Number = refl
found_own type.Cons = refl
found_own type.Null = refl
found_own type.Keyword = refl
found_own type.Integer = refl

found_at : (b : Bool) (p : TypeId → Bool) (x t : TypeId) (rest : Option TypeId) → p x ≡ b → (rest ≡ Some t → p t ≡ true) → cond b (Some x) rest ≡ Some t → p t ≡ true
found_at true p x t rest e later found = let same : x ≡ t = cc in subst (λ u. p u ≡ true) same e
found_at false p x t rest e later found = later found

found_passes : (p : TypeId → Bool) (ts : List TypeId) (t : TypeId) → find p ts ≡ Some t → p t ≡ true
found_passes p [] t found = absurd (cc)
found_passes p (x ∷ xs) t found = found_at (p x) p x t (find p xs) refl (found_passes p xs t) found

-- a name finds the type of that name, and no other
pub found_iff : (name : List ℕ) (t : TypeId) → (find (λ u. bytes_eq (name_of u) name) ALL ≡ Some t) ↔ (name ≡ name_of t)
found_iff name t = (
  λ found. sym ((bytes_eq-Decides (name_of t) name).0 (found_passes (λ u. bytes_eq (name_of u) name) ALL t found)),
  λ same. rw same (found_own t),
)
