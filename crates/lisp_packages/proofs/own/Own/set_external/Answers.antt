use Rattle.std.proofs.Common.{◌≡◌, ◌∙◌, None, Some, true, ap, sym, rules}
use Rattle.std.specs.Map.{lookup, values_of}
use Rattle.lisp_packages.specs.Entries.{entry_of, with_external}
use Rattle.lisp_packages.proofs.ExternalLemmas.{values-set_external, IsKeyed-set_external, with_external-none}
use Rattle.lisp_packages.proofs.OwnLemmas.{lookup-IsKeyed}
use Rattle.lisp_packages.proofs.TextLemmas.{is_text}
use Rattle.lisp_packages.proofs.own.Own.set_external.Goals as goal

pub invariant_of-self : goal.invariant_of-self
invariant_of-self c =
    let there : lookup (is_text c.args.name.now) c.self.inside.map.entries ≡ Some c.in-Some.entry.now = search rules in
    rw (c.get_mut.follows.holds (record c.in-Some.entry.now { external = true })).0 (IsKeyed-set_external c.args.name.now c.self.inside.map.entries c.in-Some.entry.now c.self.invariant there)

pub returns-in-Some : goal.returns-in-Some
returns-in-Some c =
    let there : lookup (is_text c.args.name.now) c.self.inside.map.entries ≡ Some c.in-Some.entry.now = search rules in
    ap values_of (c.get_mut.follows.holds (record c.in-Some.entry.now { external = true })).0
    ∙ values-set_external c.args.name.now c.self.inside.map.entries c.in-Some.entry.now c.self.invariant there ∙ ap (λ own. with_external own c.args.name.now) c.self.view_is

pub returns : goal.returns
returns c =
    let absent : lookup (is_text c.args.name.now) c.self.inside.map.entries ≡ None = search rules in
    let none : entry_of c.args.self.now c.args.name.now ≡ None =
    sym (ap (λ own. entry_of own c.args.name.now) c.self.view_is) ∙ sym (lookup-IsKeyed c.args.name.now c.self.inside.map.entries c.self.invariant) ∙ absent in
    ap (λ m. values_of m.entries) c.get_mut.follows.holds-at-none ∙ c.self.view_is ∙ with_external-none c.args.self.now c.args.name.now none
