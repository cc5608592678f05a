use Rattle.std.proofs.Common.{rules, ◌-◌, ◌<◌, sym, ap, ◌∙◌}
use Rattle.lisp_frames.specs.Stack.{StackState, outer}
use Rattle.lisp_control.specs.Leaving.{behind, passing}
use Rattle.lisp_control.proofs.LeavingLemmas.{passed_on}
use Rattle.lisp_control.proofs.leaving.pass.Goals as goal

-- src/leaving.rt:38:5
pub layers-preserved : goal.layers-preserved
layers-preserved c =
    let more : 0 < c.layers.to_go = search rules in
    let on = passed_on c.layers.passed c.layers.to_go c.in-Some.frame c.layers.stack.context more (sym c.pop.ensures.frame ∙ c.in-Some.is) (sym c.in_ok-met.ensures.met ∙ c.in-None.is) in (
      c.layers.invariant.0 ∙ on
          ∙ ap (λ ps. behind ps (passing (c.layers.to_go - 1) (outer c.layers.stack.context))) (sym c.in_ok-met.ensures.passed)
          ∙ ap (λ (s : StackState). behind c.taken.new.passed (passing (c.layers.to_go - 1) s.context)) (sym c.pop.ensures.rest),
      search rules,
    )
