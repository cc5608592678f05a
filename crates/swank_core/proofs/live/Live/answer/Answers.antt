use Rattle.std.proofs.Common.{◌≡◌, Option, Some, None, refl, sym, ap, ◌∙◌}
use Rattle.std.specs.Prelude.{IfSome}
use Rattle.mailboxes.specs.Mail.{AllBefore}
use Rattle.session_model.specs.World.{Thread, thread_in}
use Rattle.swank_core.specs.Live.{LiveState}
use Rattle.swank_core.proofs.live.Live.answer.Goals as goal

some_of : (P : Thread → Type 0) (o : Option Thread) → ((thread : Thread) → o ≡ Some thread → P thread) → IfSome o P
some_of P None h = tt
some_of P (Some thread) h = h thread refl

pub post-requires-clause-later : goal.post-requires-clause-later
post-requires-clause-later c =
    let t = c.named-t.result in
    some_of (λ thread. AllBefore c.args.at thread.mailbox) (thread_in c.self.inside.threads t) (λ thread e. c.requires.placed t thread (ap (λ (l : LiveState). thread_in l.threads t) (sym c.self.view_is) ∙ e))
