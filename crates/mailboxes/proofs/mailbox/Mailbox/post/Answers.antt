use Rattle.mailboxes.proofs.MailLemmas.{AreInOrder-append}
use Rattle.mailboxes.proofs.mailbox.Mailbox.post.Goals as goal

pub invariant_of-self-2 : goal.invariant_of-self-2
invariant_of-self-2 c =
    let before = rw (← c.self.view_is) at c.requires.later in
    rw c.in_ok-push.ensures.ok (AreInOrder-append _ (c.args.at, c.args.m) c.self.invariant before)
