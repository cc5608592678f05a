use Rattle.std.proofs.Common.{rules, ◌≡◌, ℕ, ◌<◌, refl, sym, subst, arith, length}
use Rattle.std.specs.Prelude.{slice_index_or, Contains}
use Rattle.std.specs.Bool.{one_answer}
use Rattle.std.proofs.lemmas.List.Elements.{Contains-get_or}
use denote.Enum.Bare.{same_true, same_false}
use Rattle.lisp_data.specs.contracts.type_id.TypeId.{the_type}
use Rattle.lisp_data.specs.declared.type_id.TypeId.{TypeId}
use Rattle.lisp_data.specs.declared.type_id.TypeId.TheVariants as type
use Rattle.lisp_types.specs.Types.{parents_of, IsA, itself, through}
use Rattle.lisp_types.specs.Kinds.{is_kind}
use Rattle.lisp_types.proofs.KindLemmas.{is_kind_iff}
use Rattle.lisp_types.proofs.TypesLemmas.{height_of, parent_lower}
use Rattle.lisp_types.proofs.+is_kind.Goals as goal

pub returns-then-eq-clause-law : goal.returns-then-eq-clause-law
returns-then-eq-clause-law t c =
    let same : c.args.a ≡ c.args.b = same_true the_type (search rules) _ _ (sym c.if-eq.ensures) in
    (λ yes. subst (λ u. IsA c.args.a u) same (itself c.args.a), λ is. refl)

pub is_kind-requires : goal.is_kind-requires
is_kind-requires t c =
    let below : c.loop-parent.parent-index < length (parents_of c.args.a) = subst (λ ps. c.loop-parent.parent-index < length ps) c.parents_of-parent-items.ensures c.loop-parent-test.true in
    let lower : height_of (slice_index_or c.parents_of-parent-items.result.now c.loop-parent.parent-index type.T) < height_of c.args.a =
    subst (λ ps. height_of (slice_index_or ps c.loop-parent.parent-index type.T) < height_of c.args.a) (sym c.parents_of-parent-items.ensures) (parent_lower c.args.a c.loop-parent.parent-index type.T below) in
    (search (rules, lower, c.decreases), tt)

pub returns-then-is_kind-clause-law : goal.returns-then-is_kind-clause-law
returns-then-is_kind-clause-law t c =
    let parents = c.parents_of-parent-items.result.now in
    let parent = slice_index_or parents c.loop-parent.parent-index type.T in
    let among : Contains (parents_of c.args.a) parent = subst (λ ps. Contains ps parent) c.parents_of-parent-items.ensures (Contains-get_or parents c.loop-parent.parent-index type.T c.loop-parent-test.true) in
    (λ yes. through c.args.a parent c.args.b among (c.is_kind.ensures.law.0 c.if-is_kind.true), λ is. refl)

-- a chain from a type that is not the other begins at one of its parents
leads : (a b : TypeId) → (a ≡ b → ⊥) → ((k : ℕ) (p : TypeId) → k < length (parents_of a) → slice_index_or (parents_of a) k p ≡ p → IsA p b → ⊥) → IsA a b → ⊥
leads a b other none (itself t) = other refl
leads a b other none (through t parent ancestor among is) = none among.0 parent among.1 among.2 is

pub returns-clause-law : goal.returns-clause-law
returns-clause-law t c =
    let other : c.args.a ≡ c.args.b → ⊥ = same_false the_type _ _ (sym c.if-eq.ensures) in
    let none : (k : ℕ) (p : TypeId) → k < length (parents_of c.args.a) → slice_index_or (parents_of c.args.a) k p ≡ p → IsA p c.args.b → ⊥ =
    subst (λ ps. (k : ℕ) (p : TypeId) → k < length ps → slice_index_or ps k p ≡ p → IsA p c.args.b → ⊥) c.parents_of-parent-items.ensures (λ k p below. c.loop-parent.invariant k p (omega (arith, below))) in
    (λ yes. absurd (cc), λ is. absurd (leads c.args.a c.args.b other none is))

pub returns-then-eq-clause-value : goal.returns-then-eq-clause-value
returns-then-eq-clause-value t c = one_answer _ (is_kind c.args.a c.args.b) (returns-then-eq-clause-law t c) (is_kind_iff c.args.a c.args.b)

pub returns-then-is_kind-clause-value : goal.returns-then-is_kind-clause-value
returns-then-is_kind-clause-value t c = one_answer _ (is_kind c.args.a c.args.b) (returns-then-is_kind-clause-law t c) (is_kind_iff c.args.a c.args.b)

pub returns-clause-value : goal.returns-clause-value
returns-clause-value t c = one_answer _ (is_kind c.args.a c.args.b) (returns-clause-law t c) (is_kind_iff c.args.a c.args.b)
