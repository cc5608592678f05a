use Rattle.rpc_messages.proofs.PlainLemmas.{answer-plain}
use Rattle.rpc_messages.proofs.to_emacs.to_sexp.Goals as goal

pub returns-clause-plain : goal.returns-clause-plain
returns-clause-plain c = answer-plain _ _ c.requires c.made.ensures.form c.made.ensures.sound
