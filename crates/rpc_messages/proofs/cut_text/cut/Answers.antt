use Rattle.std.proofs.Common.{arith, ◌∙◌}
use Rattle.std.proofs.lemmas.List.{nil_from_length}
use Rattle.rpc_messages.proofs.CutLemmas.{Shows-next, cut-long, cut-short}
use Rattle.rpc_messages.proofs.cut_text.cut.Goals as goal

pub returns-then-count-ge-MAX_SHOWN : goal.returns-then-count-ge-MAX_SHOWN
returns-then-count-ge-MAX_SHOWN c = c.in_ok-push_str.ensures.ok ∙ cut-long _ _ _ _ _ _ c.loop-c.invariant c.in-Some.ensures.steps.0 (omega arith)

pub loop-c-preserved : goal.loop-c-preserved
loop-c-preserved c = Shows-next _ _ _ _ _ _ _ c.loop-c.invariant c.in-Some.ensures.steps.0 (omega arith) c.in_ok-push.ensures.ok

pub returns : goal.returns
returns c =
    let none = nil_from_length _ c.in_default.ensures.steps.0.0 in
    cut-short _ _ _ c.utf8.text (rw none at c.loop-c.invariant)
