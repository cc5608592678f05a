use Rattle.std.proofs.Common.{◌≡◌, ◌↔◌, subst, sym}
use Rattle.std.specs.Prelude.{Some}
use Rattle.lisp_data.specs.TypeNames.{name_of}
use Rattle.lisp_types.proofs.KindLemmas.{type_by_name_iff}
use Rattle.lisp_types.proofs.type_by_name.Goals as goal

pub returns-clause-law : goal.returns-clause-law
returns-clause-law c = λ t. subst (λ r. (r ≡ Some t) ↔ (c.args.name.now ≡ name_of t)) (sym c.first_named.ensures) (type_by_name_iff c.args.name.now t)
