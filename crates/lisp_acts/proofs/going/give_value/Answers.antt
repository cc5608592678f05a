use Rattle.std.proofs.Common.{[], sym, ap, ◌∙◌}
use Rattle.lisp_acts.specs.Amid.{Rest, amid}
use Rattle.lisp_acts.proofs.GoingLemmas.{gives_on}
use Rattle.lisp_frames.specs.Resumed.{resumed_to}
use Rattle.step_model.specs.Perform.{lays}
use Rattle.lisp_acts.proofs.going.give_value.Goals as goal

-- a form that waits goes on
pub returns-in_ok-lay : goal.returns-in_ok-lay
returns-in_ok-lay c =
    let there = c.in_ok-found.ensures.changed ∙ ap (λ o. resumed_to o c.args.value c.args.stack.now) c.in-Some.is in
    λ (r : Rest).
    gives_on r c.args.stack.now c.args.value c.in-Some.found (sym c.in-Some.is ∙ c.in_ok-found.ensures.found)
    ∙ ap (λ s. lays (amid r s) [] c.in-Some.found) (sym there)
    ∙ ap (λ ps. lays (amid r c.resume.new.self) ps c.in-Some.found) (sym c.new.ensures)
    ∙ c.in_ok-lay.ensures r
