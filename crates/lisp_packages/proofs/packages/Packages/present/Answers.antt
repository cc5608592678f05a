use Rattle.std.proofs.Common.{◌≡◌, ◌∙◌, ap, None, Some, true, false, slice_get, sym, rules}
use Rattle.lisp_packages.specs.Entries.{entry_of}
use Rattle.lisp_packages.specs.Made.{has_made}
use Rattle.lisp_packages.proofs.MadeLemmas.{present-absent, present-own, present-none, present-made}
use Rattle.lisp_packages.proofs.packages.Packages.present.Goals as goal

pub returns-in_default : goal.returns-in_default
returns-in_default c =
    let absent : slice_get c.args.self.now c.args.place ≡ None = search rules in
    sym (present-absent c.args.self.now c.args.made.now c.args.place c.args.name.now absent)

pub returns-in-Some-get : goal.returns-in-Some-get
returns-in-Some-get c =
    let there : slice_get c.args.self.now c.args.place ≡ Some c.in-Some.package.now = search rules in
    let found : entry_of c.in-Some.package.now.own c.args.name.now ≡ Some c.in_ok-share.field-0 = search rules in
    sym (present-own c.args.self.now c.args.made.now c.args.place c.args.name.now c.in-Some.package.now c.in_ok-share.field-0 there found)

pub returns-then-not-branch : goal.returns-then-not-branch
returns-then-not-branch c =
    let there : slice_get c.args.self.now c.args.place ≡ Some c.in-Some.package.now = search rules in
    let none : entry_of c.in-Some.package.now.own c.args.name.now ≡ None = search rules in
    let other : has_made c.args.made.now c.args.place c.args.name.now ≡ false = search rules in
    sym (present-none c.args.self.now c.args.made.now c.args.place c.args.name.now c.in-Some.package.now there none other)

pub returns : goal.returns
returns c =
    let there : slice_get c.args.self.now c.args.place ≡ Some c.in-Some.package.now = search rules in
    let none : entry_of c.in-Some.package.now.own c.args.name.now ≡ None = search rules in
    let made : has_made c.args.made.now c.args.place c.args.name.now ≡ true = search rules in
    ap Some c.in_ok-new_entry.ensures ∙ sym (present-made c.args.self.now c.args.made.now c.args.place c.args.name.now c.in-Some.package.now there none made)
