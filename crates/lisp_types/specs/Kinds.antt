-- Whether one type is another, as a test that definitions can use (HyperSpec 4.2.2).
use Rattle.std.specs.Prelude.{ℕ, zero, suc, Bool, ◌||◌, List, Option}
use Rattle.std.specs.List.{find, list_any}
use Rattle.std.specs.Str.{bytes_eq}
use Rattle.lisp_data.specs.declared.type_id.TypeId.{TypeId}
use Rattle.lisp_data.specs.Same.{same_type}
use Rattle.lisp_data.specs.TypeNames.{name_of}
use Rattle.lisp_types.specs.Types.{parents_of}
use Rattle.lisp_types.specs.declared.TheConstants.{ALL}

-- a chain of at most this many direct parents leads from one type to another
abbrev pub leads_to : ℕ → TypeId → TypeId → Bool
leads_to zero a b = same_type a b
leads_to (suc n) a b = same_type a b || list_any (λ parent. leads_to n parent b) (parents_of a)

-- one type is another or a subtype of it: no chain of parents is longer than six
unfoldable pub is_kind : TypeId → TypeId → Bool
is_kind a b = leads_to 6 a b

-- the type of that name, None where no type has it
unfoldable pub type_by_name : List ℕ → Option TypeId
type_by_name name = find (λ t. bytes_eq (name_of t) name) ALL
