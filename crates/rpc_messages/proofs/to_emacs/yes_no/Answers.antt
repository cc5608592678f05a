use Rattle.rpc_messages.proofs.to_emacs.yes_no.Goals as goal

pub returns : goal.returns
returns c = rw (← c.in_ok-text.ensures) c.of_thread_and.ensures
