use Rattle.std.proofs.Common.{arith}
use Rattle.std.proofs.lemmas.Grind.{common_steps}
use Rattle.std.proofs.lemmas.List.{take_all}
use Rattle.std.proofs.lemmas.List.Elements.{All-more}
use Rattle.rpc_messages.specs.Plain.{HasText}
use Rattle.rpc_messages.proofs.to_emacs.frame_lines.Goals as goal

pub loop-line-preserved : goal.loop-line-preserved
loop-line-preserved c =
    (grind (arith, common_steps), All-more HasText c.args.lines.now c.loop-line.line-index c.line-item.result (omega arith) c.loop-line.invariant.1 (rw (← c.line-item.is) c.in_ok-frame_line.ensures.text))

pub returns-clause-texts : goal.returns-clause-texts
returns-clause-texts c = rw (take_all c.loop-line.line-index c.args.lines.now (omega arith)) at c.loop-line.invariant.1
