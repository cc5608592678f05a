use Rattle.inlet.specs.Messages.{IsMessageOf, is_no_text}
use Rattle.inlet.proofs.MessageLemmas.{IfOk-is}
use Rattle.inlet.proofs.payload.message_of.Goals as goal

pub returns-in-Err : goal.returns-in-Err
returns-in-Err c = IfOk-is _ _ (IsMessageOf c.args.payload.now) (is_no_text c.in-Err.ensures.cases.0) c.no_text.ensures
