use Rattle.std.proofs.Common.{sym, ◌∙◌}
use Rattle.swank_session.proofs.NextLemmas.{next-ready}
use Rattle.swank_session.proofs.TurnLemmas.{found-above, found-round, ready-if}
use Rattle.swank_core.specs.Session.{world}
use Rattle.swank_session.proofs.serving.next_of.Goals as goal

pub returns-in-Some-clause-is : goal.returns-in-Some-clause-is
returns-in-Some-clause-is c =
    let live = c.requires.paused.free.live in
    sym (found-above c.args.core.now c.args.reached c.in-Some.t live.running (sym (c.next_ready.ensures.least live.whole) ∙ c.in-Some.is))

pub returns-in-Some-clause-ready : goal.returns-in-Some-clause-ready
returns-in-Some-clause-ready c =
    let live = c.requires.paused.free.live in
    next-ready (world c.args.core.now) c.args.reached c.in-Some.t (found-above c.args.core.now c.args.reached c.in-Some.t live.running (sym (c.next_ready.ensures.least live.whole) ∙ c.in-Some.is))

pub returns-in-None-clause-is : goal.returns-in-None-clause-is
returns-in-None-clause-is c =
    let live = c.requires.paused.free.live in
    c.next_ready-in-None.ensures.least live.whole ∙ sym (found-round c.args.core.now c.args.reached live.running (sym (c.next_ready.ensures.least live.whole) ∙ c.in-None.is))

pub returns-in-None-clause-ready : goal.returns-in-None-clause-ready
returns-in-None-clause-ready c =
    let live = c.requires.paused.free.live in
    ready-if c.args.core.now c.args.reached c.next_ready-in-None.result
    (c.next_ready-in-None.ensures.least live.whole ∙ sym (found-round c.args.core.now c.args.reached live.running (sym (c.next_ready.ensures.least live.whole) ∙ c.in-None.is)))
