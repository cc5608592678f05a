use Rattle.std.proofs.Common.{[], sym, ap, ◌∙◌}
use Rattle.lisp_acts.specs.Amid.{Rest, amid}
use Rattle.lisp_acts.specs.Exits.{landed}
use Rattle.step_model.specs.Perform.{goes}
use Rattle.lisp_acts.proofs.exits.land.Goals as goal

-- into the cleanup
pub returns-in_ok-go-in-Cleans : goal.returns-in_ok-go-in-Cleans
returns-in_ok-go-in-Cleans c = λ (r : Rest).
    ap (λ next. landed (amid r c.args.stack.now) next c.args.runs) c.in-Cleans.is
    ∙ ap (λ found. goes (amid r c.args.stack.now) [] found) (sym c.in_ok-found-in-Cleans.ensures)
    ∙ ap (λ ps. goes (amid r c.args.stack.now) ps c.in_ok-found-in-Cleans.found) (sym c.new.ensures)
    ∙ c.in_ok-go-in-Cleans.ensures r
