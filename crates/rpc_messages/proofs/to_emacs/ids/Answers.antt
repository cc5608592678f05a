use mir.Syntax.{w64}
use Rattle.std.proofs.Common.{arith, pos}
use Rattle.std.specs.Prelude.{FitsSigned}
use Rattle.std.proofs.lemmas.Grind.{common_steps}
use Rattle.std.proofs.lemmas.List.Elements.{All-more}
use Rattle.rpc_messages.proofs.to_emacs.ids.Goals as goal

pub loop-id-preserved : goal.loop-id-preserved
loop-id-preserved c =
    (grind (arith, common_steps), All-more (FitsSigned w64) c.args.ids.now c.loop-id.id-index (pos 0) (omega arith) c.loop-id.invariant.1 c.integer.ensures.fits)
