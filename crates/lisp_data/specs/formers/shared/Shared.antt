-- How a shared value is held, so that a tree can hold shared subtrees: it is seen as the value, and owns, lends and is coded by
-- what its `Arc` does.
use mathlib.Core.Path.{refl}
use mathlib.Core.Former.{Former, this, const, pair, via}
use base.Stored.{gnil}
use base.Fml.{ftrue}
use denote.RattleType.{RattleType}
use denote.Memory.{part_of}
use denote.RawPtr.{Ptr}
use denote.Sharing.{nothing}
use denote.HoleLaws.{Alike}
use denote.HolePlaces.{Recodes, struct_places, laid, one_value}
use denote.Hole.Fix.{over}
use denote.Param.Weighed.{Weighed}
use denote.Model.Placed.{view_places}
use Rattle.std.specs.declared.sync.Arc.{Arc}
use Rattle.std.specs.contracts.sync.Arc as heap_arc
use Rattle.std.specs.declared.alloc.Global.{Global}
use Rattle.std.specs.contracts.alloc.Global as global
use Rattle.std.specs.contracts.impls.GlobalAllocator.TheImpl.{ghosts}
use Rattle.lisp_data.specs.declared.shared.Shared.TheInside.{Inside}
use Rattle.lisp_data.specs.declared.shared.Shared.TheView.{view, invariant}
use Rattle.lisp_data.specs.contracts.shared.Shared as shared
use Rattle.lisp_data.specs.contracts.shared.Shared.TheInside as fields

abbrev pub the_former : Former {0} → Former {0}
the_former g = g

abbrev pub the_weighed : {g : Former {0}} → Weighed g → Weighed (the_former g)
the_weighed w = w

-- the struct's one field, as a former: a pointer and the value
abbrev field_former : Former {0}
field_former = via (pair (const Ptr) this) Inside (λ A b. (b.inner.ptr, b.inner.value))
    (λ A v. record { inner = record { ptr = v.0; value = v.1 } }) (λ A b. refl) (λ A v. refl)

-- the same block with another value in it
abbrev holding : {A B : Type 0} → Arc A Global → B → Arc B Global
holding block value = record { ptr = block.ptr; value = value }

abbrev arc_row : RattleType → RattleType
arc_row of = heap_arc.the_row of global.the_row ghosts

module _ (from to : RattleType) (h : from.Denot → to.Denot) where
  arc_places : Alike from to h → Alike (arc_row from) (arc_row to) (λ block. holding block (h block.value))
  unfolding part_of
  arc_places alike = record {
    mir_same = λ i. (arc_row (one_value from (alike.mir_same i) (λ _. ftrue) (λ _ _. nothing) gnil)).mir;
    own_same = λ block i. (arc_row (one_value from (alike.mir_same i) (alike.own_same block.value i) (alike.shr_same block.value i) gnil)).own_val (holding block tt);
    shr_same = λ block i. (arc_row (one_value from (alike.mir_same i) (alike.own_same block.value i) (alike.shr_same block.value i) gnil)).shr_at (holding block tt);
  }

  pub the_places : Alike from to h → Alike (shared.the_row from) (shared.the_row to) ((the_former this).map from.Denot to.Denot h)
  the_places alike =
      view_places field_former this view (λ A B f b. refl) (λ A b. refl) from.Denot to.Denot h (shared.the_row from).coded (shared.the_row to).coded
      (invariant from.Denot) (invariant to.Denot) (λ b p q. refl) (λ b p q. refl) (λ b e. tt) (λ b e. tt)
      (over (fields.the_row from)) (over (fields.the_row to))
      (struct_places (fields.the_type from) (fields.the_type to) ((λ block. holding block (h block.value)), tt) _ (λ b. refl) refl (laid _ _ _ (arc_places alike), tt))

  pub the_codes_placed : Recodes from to h → Recodes (shared.the_row from) (shared.the_row to) ((the_former this).map from.Denot to.Denot h)
  the_codes_placed recodes b = recodes b
