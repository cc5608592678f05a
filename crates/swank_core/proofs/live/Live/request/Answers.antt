use Rattle.std.proofs.Common.{◌≡◌, ℕ, ◌<◌, length, reverse, true, List, Option, Some, None, refl, sym, ap, ◌∙◌, subst}
use Rattle.std.specs.Prelude.{is_some, IfSome}
use Rattle.mailboxes.specs.Mail.{AllBefore}
use Rattle.session_model.specs.World.{Thread, thread_in}
use Rattle.swank_core.specs.Live.{LiveState}
use Rattle.swank_core.specs.Workers.{AreWorkers}
use Rattle.swank_core.proofs.PlacedLemmas.{live_within}
use Rattle.swank_core.proofs.WorkerLemmas.{are_distinct}
use Rattle.swank_core.proofs.live.Live.request.Goals as goal

some_of : (P : Thread → Type 0) (o : Option Thread) → ((thread : Thread) → o ≡ Some thread → P thread) → IfSome o P
some_of P None h = tt
some_of P (Some thread) h = h thread refl

pub post-requires-clause-later : goal.post-requires-clause-later
post-requires-clause-later c =
    let t = c.args.t in
    some_of (λ thread. AllBefore c.args.at thread.mailbox) (thread_in c.self.inside.threads t) (λ thread e. c.requires.placed t thread (ap (λ (l : LiveState). thread_in l.threads t) (sym c.self.view_is) ∙ e))

pub route-requires : goal.route-requires
route-requires c = record { distinct = are_distinct (length c.self.inside.threads) _ c.self.invariant }

live_one : (threads : List (Option Thread)) (t : ℕ) (o : Option Thread) → thread_in threads t ≡ o → is_some o ≡ true → t < length threads
live_one threads t None e h = absurd (cc)
live_one threads t (Some thread) e h = live_within threads t thread e

pub invariant_of-self-in_ok-route : goal.invariant_of-self-in_ok-route
invariant_of-self-in_ok-route c =
    let i = c.self.inside in
    let less = live_one i.threads c.args.t (thread_in i.threads c.args.t) refl (sym c.in_ok-post.ensures.live ∙ c.if-branch.true) in
    subst (λ n. AreWorkers n (reverse c.route.new.workers.items)) (sym c.in_ok-post.ensures.long) (c.route.ensures.kept (length i.threads) less c.self.invariant)

pub invariant_of-self-in_err-route : goal.invariant_of-self-in_err-route
invariant_of-self-in_err-route c =
    let i = c.self.inside in
    let less = live_one i.threads c.args.t (thread_in i.threads c.args.t) refl (sym c.in_ok-post.ensures.live ∙ c.if-branch.true) in
    subst (λ n. AreWorkers n (reverse c.route.new.workers.items)) (sym c.in_ok-post.ensures.long) (c.route.ensures.kept (length i.threads) less c.self.invariant)
