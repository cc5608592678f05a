use Rattle.std.proofs.Common.{◌≡◌, ◌∙◌, ◌++◌, ◌∷◌, ◌&&◌, [], sym, ap, None, Some, length, vec_len, arith, if◌then◌else◌}
use Rattle.std.specs.Str.{bytes_eq}
use Rattle.lisp_image.specs.Places.{number_of, place_of}
use Rattle.lisp_image.proofs.PlaceLemmas.{with_value-new, IsIndexed-push}
use Rattle.lisp_image.proofs.symbol_map.SymbolMap.add.Goals as goal

pub invariant_of-self-in_default : goal.invariant_of-self-in_default
invariant_of-self-in_default g c =
    let none : place_of c.self.inside.entries.items c.args.symbol.now ≡ None = ap (λ es. place_of es c.args.symbol.now) c.self.view_is ∙ c.requires in
    let len : vec_len c.self.inside.entries ≡ length c.self.inside.entries.items = omega arith in
    λ t. IsIndexed-push c.self.inside.homes c.set_number.new.homes c.self.inside.entries.items c.args.symbol.now c.args.value c.self.invariant
    (λ h n. c.in_default.ensures.ok h n
    ∙ (λ j. if bytes_eq (c.as_str-home.ensures.value j) h && bytes_eq (c.as_str-name.ensures.value j) n then Some ((c.len-place.ensures ∙ len) j) else number_of c.self.inside.homes h n))
    none t
    ∙ ap (λ es. place_of es t) (sym (c.in_ok-push.ensures.items ∙ (λ j. c.self.inside.entries.items ++ (c.in_ok-copy.ensures j, c.args.value) ∷ [])))

pub returns-clause-ok : goal.returns-clause-ok
returns-clause-ok g c = c.in_ok-push.ensures.items ∙ (λ j. c.self.view_is j ++ (c.in_ok-copy.ensures j, c.args.value) ∷ []) ∙ sym (with_value-new c.args.self.now c.args.symbol.now c.args.value c.requires)
