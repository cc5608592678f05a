-- The marker of the package that a request binds.
use Rattle.std.proofs.Common.{◌≡◌, Bool, true, false, [], ◌∷◌, Some, None, refl, sym, ap}
use Rattle.lisp_data.specs.declared.value.Value.{Value}
use Rattle.lisp_dynamic.specs.Values.{bound_in}
use Rattle.step_model.specs.CurrentPackage.{package_variable}
use Rattle.step_model.specs.Perform.{package_bound}
use Rattle.term_model.specs.declared.plain.Plain.TheVariants as plain

pub bound_some : (b : Bool) (v w : Value) → bound_in b v ≡ Some w → plain.Dynamic package_variable w ∷ [] ≡ package_bound b v
bound_some true v w e = let same : v ≡ w = cc in ap (λ x. plain.Dynamic package_variable x ∷ []) (sym same)
bound_some false v w e = absurd (cc)

pub bound_none : (b : Bool) (v : Value) → bound_in b v ≡ None → [] ≡ package_bound b v
bound_none true v e = absurd (cc)
bound_none false v e = refl
