use Rattle.std.proofs.Common.{sym, ap, ◌∙◌}
use Rattle.session_model.specs.World.{start}
use Rattle.step_model.specs.Image.{ImageState}
use Rattle.swank_core.specs.Live.{shown}
use Rattle.swank_core.proofs.LegalLemmas.{legal_open}
use Rattle.swank_core.proofs.TiesLemmas.{fits_open, ties_open}
use Rattle.swank_core.proofs.state.Core.open.Goals as goal

pub invariant_of-result : goal.invariant_of-result
invariant_of-result c = (
  ties_open c.of-opened.result.value c.new-in-Ok-3.result c.new-in-Ok.result c.new-in-Ok-2.result c.new-in-Ok-3.ensures c.new-in-Ok-2.ensures
      (c.new-in-Ok.ensures ∙ ap (λ (image : ImageState). shown (start image)) (sym c.of-opened.ensures)),
  fits_open c.new-in-Ok-3.result c.new-in-Ok-2.result c.args.limits.now c.new-in-Ok-3.ensures c.new-in-Ok-2.ensures c.requires.limits.entries,
  legal_open c.of-opened.result.value c.new-in-Ok-3.result c.new-in-Ok-3.ensures,
)
