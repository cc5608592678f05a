use Rattle.std.proofs.Common.{sym, ◌∙◌}
use Rattle.mailboxes.proofs.MailLemmas.{is_accepted}
use Rattle.mailboxes.proofs.mailbox.Mailbox.accepts.Goals as goal

pub returns : goal.returns
returns c =
    let place = rw c.as_slice.ensures at c.first_place.ensures.place in
    let within = rw c.as_slice.ensures at c.first_place.ensures.within in
    rw (← c.self.view_is) (c.is_some.ensures ∙ is_accepted c.args.p.now c.self.inside.entries c.first_place.result (sym place) within)
