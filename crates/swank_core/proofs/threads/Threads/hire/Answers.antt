use Rattle.std.proofs.Common.{◌≡◌, ◌+◌, ◌<◌, ◌^◌, ◌++◌, ◌∷◌, [], length, Some, sym, ap, ◌∙◌, subst, arith}
use Rattle.lisp_step.specs.declared.machine.Machine.{Machine}
use Rattle.server_rules.specs.Simple.{are_simple}
use Rattle.session_model.specs.Arriving.{posted}
use Rattle.session_model.specs.World.{Thread, fresh}
use Rattle.swank_core.specs.Threads.{AreKept, thread_of, threads_of}
use Rattle.swank_core.proofs.TableLemmas.{long_as, push_kept}
use Rattle.swank_core.proofs.threads.Threads.hire.Goals as goal

pub overflow_add-self : goal.overflow_add-self
overflow_add-self c =
    let long : length c.args.self.now ≡ c.self.inside.next = long_as c.self.inside.next 0 c.self.inside.records.items c.args.self.now c.self.view_is in
    omega (arith, long, c.requires.few)

pub invariant_of-self-2 : goal.invariant_of-self-2
invariant_of-self-2 c =
    let i = c.self.inside in
    let long : length c.args.self.now ≡ i.next = long_as i.next 0 i.records.items c.args.self.now c.self.view_is in
    let less : i.next < 2 ^ 63 = omega (arith, long, c.requires.few) in
    let number = ap (λ (m : Machine). m.thread) c.in_ok-post.ensures.machine ∙ c.new-record.ensures.number in
    let simple = ap (λ (m : Machine). are_simple m.stack.context) c.in_ok-post.ensures.machine ∙ c.new-record.ensures.simple in
    subst (AreKept (i.next + 1)) (sym c.in_ok-push.ensures.items) (push_kept i.next i.records.items c.post.new.self less c.self.invariant number simple).kept

pub returns-clause-number : goal.returns-clause-number
returns-clause-number c = sym (long_as c.self.inside.next 0 c.self.inside.records.items c.args.self.now c.self.view_is)

pub returns-clause-hired : goal.returns-clause-hired
returns-clause-hired c =
    let i = c.self.inside in
    let long : length c.args.self.now ≡ i.next = long_as i.next 0 i.records.items c.args.self.now c.self.view_is in
    let less : i.next < 2 ^ 63 = omega (arith, long, c.requires.few) in
    let number = ap (λ (m : Machine). m.thread) c.in_ok-post.ensures.machine ∙ c.new-record.ensures.number in
    let simple = ap (λ (m : Machine). are_simple m.stack.context) c.in_ok-post.ensures.machine ∙ c.new-record.ensures.simple in
    let is = c.in_ok-post.ensures.thread ∙ ap (λ (thread : Thread). posted thread c.args.at c.in_ok-copy_of.field-0) c.new-record.ensures.thread ∙ ap (posted (fresh []) c.args.at) c.in_ok-copy_of.ensures in
    ap (threads_of (i.next + 1)) c.in_ok-push.ensures.items
    ∙ (push_kept i.next i.records.items c.post.new.self less c.self.invariant number simple).threads
    ∙ ap (λ threads. threads ++ Some (thread_of c.post.new.self) ∷ []) c.self.view_is
    ∙ ap (λ thread. c.args.self.now ++ Some thread ∷ []) is
