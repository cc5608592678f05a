use Rattle.std.proofs.Common.{◌≡◌, ◌∙◌, sym, ap, Some, rules}
use Rattle.lisp_image.specs.Places.{place_of, with_value_at}
use Rattle.lisp_image.proofs.PlaceLemmas.{place_of-with_value_at, with_value-there}
use Rattle.lisp_image.proofs.symbol_map.SymbolMap.set.Goals as goal

pub invariant_of-self : goal.invariant_of-self
invariant_of-self g c = λ t. c.self.invariant t ∙ sym (ap (λ es. place_of es t) c.replace.ensures ∙ place_of-with_value_at c.self.inside.entries.items c.in-Some.place c.args.value t)

pub returns-in-Some-clause-ok : goal.returns-in-Some-clause-ok
returns-in-Some-clause-ok g c =
    let there : place_of c.args.self.now c.args.symbol.now ≡ Some c.in-Some.place = search rules in
    c.replace.ensures ∙ ap (λ es. with_value_at es c.in-Some.place c.args.value) c.self.view_is ∙ with_value-there c.args.self.now c.args.symbol.now c.args.value c.in-Some.place there
