use Rattle.inlet.specs.Messages.{IsMessageOf, is_form}
use Rattle.inlet.proofs.MessageLemmas.{IfOk-is, IfOk-fault}
use Rattle.inlet.proofs.payload.message_of_text.Goals as goal

pub returns-in-Ok : goal.returns-in-Ok
returns-in-Ok c =
    let spelled = rw c.in_ok-text.ensures at c.in-Ok.ensures.read in
    IfOk-is _ _ (IsMessageOf c.args.packet.now) (is_form c.in-Ok.form c.utf8.packet spelled) c.message_of_form.ensures

pub returns : goal.returns
returns c =
    let refused = rw c.in_ok-text.ensures at c.in-Err.ensures.refused in
    IfOk-fault _ _ _ c.utf8.packet refused c.message_of_fault.ensures.fault c.message_of_fault.ensures.value
