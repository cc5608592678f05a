use Rattle.step_model.specs.CurrentPackage.{global_package}
use Rattle.swank_rpc.proofs.TextLemmas.{evaluated-fault, evaluated-forms}
use Rattle.swank_rpc.proofs.text.evaluate.Goals as goal

pub returns-in_ok-kept-in-Ok : goal.returns-in_ok-kept-in-Ok
returns-in_ok-kept-in-Ok c =
    evaluated-forms c.args.text.now (global_package c.args.image.now) _ _ _ _ c.in-Ok.ensures c.is_empty.ensures c.in_ok-global-in-Ok.ensures c.in_ok-kept-in-Ok.ensures

pub returns-in_ok-refusal-in-Err : goal.returns-in_ok-refusal-in-Err
returns-in_ok-refusal-in-Err c =
    evaluated-fault c.args.text.now (global_package c.args.image.now) _ _ c.in-Err.ensures c.in_ok-refusal-in-Err.ensures.fault c.in_ok-refusal-in-Err.ensures.condition
