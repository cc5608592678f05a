use Rattle.std.proofs.Common.{sym, ◌∙◌}
use Rattle.mailboxes.proofs.MailLemmas.{none-found, none-rest, some-found, some-rest}
use Rattle.mailboxes.proofs.mailbox.take_from.Goals as goal

pub returns-in-None-clause-found : goal.returns-in-None-clause-found
returns-in-None-clause-found c = sym (none-found c.args.p.now c.args.entries.now (sym (rw c.as_slice.ensures at c.in-None.ensures.place)))

pub returns-in-None-clause-rest : goal.returns-in-None-clause-rest
returns-in-None-clause-rest c = sym (none-rest c.args.p.now c.args.entries.now (sym (rw c.as_slice.ensures at c.in-None.ensures.place)))

pub returns-in-Some-clause-found : goal.returns-in-Some-clause-found
returns-in-Some-clause-found c = sym (some-found c.args.p.now c.args.entries.now c.in-Some.at (sym (rw c.as_slice.ensures at c.in-Some.ensures.place)) ∙ c.remove.ensures.item)

pub returns-in-Some-clause-rest : goal.returns-in-Some-clause-rest
returns-in-Some-clause-rest c = c.remove.ensures.rest ∙ sym (some-rest c.args.p.now c.args.entries.now c.in-Some.at (sym (rw c.as_slice.ensures at c.in-Some.ensures.place)))
