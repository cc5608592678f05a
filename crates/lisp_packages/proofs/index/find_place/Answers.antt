use Rattle.std.proofs.Common.{◌≡◌, true, false, None, Some, slice_get, rules}
use Rattle.indexmap.specs.IndexMap.{get_by_text}
use Rattle.lisp_packages.specs.Packages.{is_named, place_of}
use Rattle.lisp_packages.proofs.NamedLemmas.{place_of-past, place_of-other, place_of-there}
use Rattle.lisp_packages.proofs.index.find_place.Goals as goal

pub returns-in_err-package-clause-place : goal.returns-in_err-package-clause-place
returns-in_err-package-clause-place c =
    let known : get_by_text c.args.names.now c.args.text.now ≡ Some c.in_ok-place.field-0.now = search rules in
    let past : slice_get c.args.list.now c.in_ok-place.field-0.now ≡ None = search rules in
    let none : None ≡ place_of c.args.list.now c.args.text.now = place_of-past c.args.names.now c.args.list.now c.args.text.now c.in_ok-place.field-0.now c.requires known past in
    search rules

pub returns-then-is_named-clause-place : goal.returns-then-is_named-clause-place
returns-then-is_named-clause-place c =
    let known : get_by_text c.args.names.now c.args.text.now ≡ Some c.in_ok-place.field-0.now = search rules in
    let at : slice_get c.args.list.now c.in_ok-place.field-0.now ≡ Some c.in_ok-package.package.now = search rules in
    let named : is_named c.args.text.now c.in_ok-package.package.now ≡ true = search rules in
    place_of-there c.args.names.now c.args.list.now c.args.text.now c.in_ok-place.field-0.now c.in_ok-package.package.now c.requires known at named

pub returns-else-is_named-clause-place : goal.returns-else-is_named-clause-place
returns-else-is_named-clause-place c =
    let known : get_by_text c.args.names.now c.args.text.now ≡ Some c.in_ok-place.field-0.now = search rules in
    let at : slice_get c.args.list.now c.in_ok-place.field-0.now ≡ Some c.in_ok-package.package.now = search rules in
    let other : is_named c.args.text.now c.in_ok-package.package.now ≡ false = search rules in
    place_of-other c.args.names.now c.args.list.now c.args.text.now c.in_ok-place.field-0.now c.in_ok-package.package.now c.requires known at other
