use Rattle.mailboxes.proofs.MailLemmas.{AreInOrder-without, first-least}
use Rattle.mailboxes.proofs.mailbox.Mailbox.take_first.Goals as goal

pub invariant_of-self : goal.invariant_of-self
invariant_of-self c = rw c.take_from.ensures.rest (AreInOrder-without _ _ c.self.invariant)

pub returns-clause-least : goal.returns-clause-least
returns-clause-least c = rw (c.take_from.ensures.found, ← c.self.view_is) (first-least _ _ c.self.invariant)
