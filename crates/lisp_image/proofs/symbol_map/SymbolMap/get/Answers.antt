use Rattle.std.proofs.Common.{◌≡◌, ◌∙◌, sym, ap, None, Some, slice_get, option_map, rules}
use Rattle.lisp_data.specs.declared.symbol.Symbol.{Symbol}
use Rattle.lisp_image.specs.Places.{place_of}
use Rattle.lisp_image.specs.SymbolMap.{value_of}
use Rattle.lisp_image.proofs.PlaceLemmas.{value_at-place, value_of-none}
use Rattle.lisp_image.proofs.symbol_map.SymbolMap.get.Goals as goal

pub returns-in_err-place : goal.returns-in_err-place
returns-in_err-place g c =
    let none : place_of c.args.self.now c.args.symbol.now ≡ None = search rules in
    let absent : value_of c.args.self.now c.args.symbol.now ≡ None = value_of-none c.args.self.now c.args.symbol.now none in
    search rules

pub returns-in_err-value : goal.returns-in_err-value
returns-in_err-value g c =
    let there : place_of c.args.self.now c.args.symbol.now ≡ Some c.in_ok-place.place = search rules in
    let past : slice_get c.args.self.now c.in_ok-place.place ≡ None = search rules in
    let absent : value_of c.args.self.now c.args.symbol.now ≡ None = sym (value_at-place c.args.self.now c.args.symbol.now c.in_ok-place.place there) ∙ ap (option_map (λ (e : Symbol × g.row.V.Denot). e.1)) past in
    search rules

pub returns : goal.returns
returns g c =
    let there : place_of c.args.self.now c.args.symbol.now ≡ Some c.in_ok-place.place = search rules in
    let found : slice_get c.args.self.now c.in_ok-place.place ≡ Some (c.in_ok-value.field-0-0.now, c.in_ok-value.value.now) = search rules in
    sym (ap (option_map (λ (e : Symbol × g.row.V.Denot). e.1)) found) ∙ value_at-place c.args.self.now c.args.symbol.now c.in_ok-place.place there
