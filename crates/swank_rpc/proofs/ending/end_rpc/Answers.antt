use Rattle.std.proofs.Common.{◌≡◌, Some, rules}
use Rattle.swank_rpc.specs.declared.function.SwankFunction.TheVariants as function
use Rattle.swank_rpc.specs.Finishes.{ended, function_called}
use Rattle.swank_rpc.specs.Kept.{has_form}
use Rattle.swank_rpc.proofs.CarryLemmas.{silent, silent-by, silent-outs}
use Rattle.swank_rpc.proofs.ending.end_rpc.Goals as goal

pub returns-in-Some-InteractiveEval-clause-outs : goal.returns-in-Some-InteractiveEval-clause-outs
returns-in-Some-InteractiveEval-clause-outs c =
    let is : function_called c.args.call.now ≡ Some function.InteractiveEval = search rules in
    silent-outs c.reply.result c.args.outs.now (ended c.args.call.now c.args.kept.now c.args.value c.args.«package».now c.args.image.now)
    (silent-by (function_called c.args.call.now) function.InteractiveEval c.args.kept.now c.args.value c.args.«package».now c.args.image.now is (silent (has_form c.args.kept.now) c.args.value c.args.«package».now))

pub returns-in-Some-InteractiveEvalRegion-clause-outs : goal.returns-in-Some-InteractiveEvalRegion-clause-outs
returns-in-Some-InteractiveEvalRegion-clause-outs c =
    let is : function_called c.args.call.now ≡ Some function.InteractiveEvalRegion = search rules in
    silent-outs c.reply-in-Some-InteractiveEvalRegion.result c.args.outs.now (ended c.args.call.now c.args.kept.now c.args.value c.args.«package».now c.args.image.now)
    (silent-by (function_called c.args.call.now) function.InteractiveEvalRegion c.args.kept.now c.args.value c.args.«package».now c.args.image.now is (silent (has_form c.args.kept.now) c.args.value c.args.«package».now))
