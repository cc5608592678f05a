-- When two values are the same. Values have no identity, so two of one shape are one (HyperSpec, functions EQ, EQL and EQUAL).
use Rattle.std.specs.Prelude.{Bool, true, false, ◌&&◌, List, [], ◌∷◌}
use Rattle.std.specs.Ordering.{int_eq}
use Rattle.std.specs.Str.{bytes_eq}
use Rattle.lisp_data.specs.declared.symbol.Symbol.{Symbol}
use Rattle.lisp_data.specs.declared.type_id.TypeId.{TypeId}
use Rattle.lisp_data.specs.declared.value.Value.{Value}
use Rattle.lisp_data.specs.declared.value.Value.TheOpen.{Condition-F, Value-F}
use Rattle.lisp_data.specs.declared.value.Value.TheFolds.{fold-Value, fold-Condition}
use Rattle.lisp_data.specs.declared.value.Value.TheViews.{out-Value}
use Rattle.lisp_data.specs.declared.value.Condition.{Condition}
use Rattle.lisp_data.specs.TypeNames.{name_of}

-- the same home and the same name
abbrev pub same_symbol : Symbol → Symbol → Bool
same_symbol s t = bytes_eq s.home t.home && bytes_eq s.name t.name

-- the same type, which has one name
abbrev pub same_type : TypeId → TypeId → Bool
same_type a b = bytes_eq (name_of a) (name_of b)

-- items that answer so to the items of another list, one by one
abbrev pub all_same : List (Value → Bool) → List Value → Bool
all_same [] [] = true
all_same (same ∷ more) (v ∷ vs) = same v && all_same more vs
all_same _ _ = false

-- one level of a value beside another value
abbrev pub same_level : Value-F (Value → Bool) (Condition → Bool) → Value-F Value Condition → Bool
same_level (Value-F.Int a) (Value-F.Int b) = int_eq a b
same_level (Value-F.Str a) (Value-F.Str b) = bytes_eq a b
same_level (Value-F.Sym a) (Value-F.Sym b) = same_symbol a b
same_level (Value-F.List sames) (Value-F.List vs) = all_same sames vs
same_level (Value-F.Cond same) (Value-F.Cond c) = same c
same_level _ _ = false

-- the same type, the same message and the same datum
abbrev pub same_parts : Condition-F (Value → Bool) (Condition → Bool) → Condition → Bool
same_parts a b = same_type a.kind b.kind && bytes_eq a.message b.message && a.datum b.datum

-- the same value
abbrev pub same_value : Value → Value → Bool
same_value = fold-Value (Value → Bool) (Condition → Bool) (λ a b. same_level a (out-Value b)) same_parts

-- the same condition
abbrev pub same_condition : Condition → Condition → Bool
same_condition = fold-Condition (Value → Bool) (Condition → Bool) (λ a b. same_level a (out-Value b)) same_parts
