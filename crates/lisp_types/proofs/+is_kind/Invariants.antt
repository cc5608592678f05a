use Rattle.std.proofs.Common.{◌≡◌, ℕ, ◌<◌}
use Rattle.std.specs.Prelude.{slice_index_or}
use Rattle.lisp_data.specs.declared.type_id.TypeId.{TypeId}
use Rattle.lisp_types.specs.Types.{IsA}
use Rattle.lisp_types.proofs.TypesLemmas.{height_of}
use Rattle.lisp_types.proofs.+is_kind.Given as goal

abbrev pub decreases-is_kind : goal.decreases-is_kind
decreases-is_kind l = height_of l.a

-- none of the parents tried so far leads on
abbrev pub invariant-loop-parent : goal.invariant-loop-parent
invariant-loop-parent l = (k : ℕ) (p : TypeId) → k < l.parent-index → slice_index_or l.parent-items k p ≡ p → IsA p l.b → ⊥
