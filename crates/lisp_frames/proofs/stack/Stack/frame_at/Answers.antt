use Rattle.std.proofs.Common.{◌≡◌, ◌+◌, ◌∙◌, None, ap, reverse, sym, arith, rules}
use Rattle.std.specs.Prelude.{slice_get}
use Rattle.term_model.specs.Search.{layer_at}
use Rattle.lisp_frames.proofs.ContextLemmas.{layer_at_place, layer_at_zero}
use Rattle.lisp_frames.proofs.stack.Stack.frame_at.Goals as goal

pub returns-in_err-place : goal.returns-in_err-place
returns-in_err-place c =
    let zero : c.args.n ≡ 0 = grind arith in
    let none : layer_at c.args.n c.args.self.now.context ≡ None = ap (λ m. layer_at m c.args.self.now.context) zero ∙ layer_at_zero c.args.self.now.context in
    search rules

pub returns : goal.returns
returns c =
    let next : c.args.n ≡ c.in_ok-place.place + 1 = grind arith in
    let layer : layer_at c.args.n (reverse c.self.inside.layers.items) ≡ slice_get c.self.inside.layers.items c.in_ok-place.place
    = layer_at_place c.self.inside.layers.items c.args.n c.in_ok-place.place next in
    let same : layer_at c.args.n c.args.self.now.context ≡ layer_at c.args.n (reverse c.self.inside.layers.items) = ap (λ s. layer_at c.args.n s.context) (sym c.self.view_is) in
    c.layer.ensures ∙ ap (λ xs. slice_get xs c.in_ok-place.place) c.as_slice.ensures.value ∙ sym layer ∙ sym same
