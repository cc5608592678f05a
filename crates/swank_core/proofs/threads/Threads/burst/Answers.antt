use Rattle.std.proofs.Common.{◌≡◌, ◌++◌, ℕ, true, List, Option, Some, None, sym, ap, ◌∙◌, subst}
use Rattle.std.specs.Prelude.{is_some, slice_set}
use Rattle.std.proofs.lemmas.List.{set-set}
use Rattle.lisp_step.specs.declared.machine.Machine.{Machine}
use Rattle.server_rules.specs.Simple.{are_simple}
use Rattle.session_model.specs.World.{Thread}
use Rattle.swank_core.specs.Bursts.{swept_from, IsBurst, Runs}
use Rattle.swank_core.specs.Threads.{number_of, thread_of, threads_of, AreKept}
use Rattle.swank_core.specs.declared.record.Record.{Record}
use Rattle.swank_core.proofs.BurstLemmas.{burst_goes, burst_over}
use Rattle.swank_core.proofs.TableLemmas.{kept_ascending, none_live, remove_set, set_read, stands, stands_removed, stands_set, stands_shows, stands_simple, stands_within}
use Rattle.swank_core.proofs.threads.Threads.burst.Goals as goal

pub find-requires : goal.find-requires
find-requires c = record { ascending = kept_ascending c.self.inside.next c.self.inside.records.items c.deref.result.now c.self.invariant c.deref.ensures.value }

no_some : (o : Option Thread) → o ≡ None → is_some o ≡ true → ⊥
no_some None e h = absurd (cc)
no_some (Some thread) e h = absurd (cc)

pub unreachable-requires : goal.unreachable-requires
unreachable-requires c =
    let i = c.self.inside in
    no_some _ (none_live i.next i.records.items c.deref.result.now c.args.t c.args.self.now c.self.invariant c.self.view_is c.deref.ensures.value c.in-None.ensures.none) c.requires.live

pub make_steps-requires : goal.make_steps-requires
make_steps-requires c =
    let i = c.self.inside in
    let was = c.index_mut.result.now in
    let s = stands i.records.items c.deref.result.now c.in-Some.place c.args.t was c.deref.ensures.value c.in-Some.ensures.at c.index_mut.ensures.value in
    record { simple = stands_simple i.next i.records.items c.in-Some.place c.args.t was c.self.invariant s }

pub invariant_of-self : goal.invariant_of-self
invariant_of-self c =
    let i = c.self.inside in
    let was = c.index_mut.result.now in
    let s = stands i.records.items c.deref.result.now c.in-Some.place c.args.t was c.deref.ensures.value c.in-Some.ensures.at c.index_mut.ensures.value in
    subst (AreKept i.next) (sym (c.remove.ensures.items ∙ remove_set i.records.items c.in-Some.place c.make_steps.new.kept)) (stands_removed i.next i.records.items c.in-Some.place c.args.t was c.self.invariant s).kept

pub invariant_of-self-in_err-sweep-in-Ok : goal.invariant_of-self-in_err-sweep-in-Ok
invariant_of-self-in_err-sweep-in-Ok c =
    let i = c.self.inside in
    let was = c.index_mut.result.now in
    let s = stands i.records.items c.deref.result.now c.in-Some.place c.args.t was c.deref.ensures.value c.in-Some.ensures.at c.index_mut.ensures.value in
    subst (AreKept i.next) (sym (c.remove-ended.ensures.items ∙ remove_set i.records.items c.in-Some.place c.make_steps.new.kept)) (stands_removed i.next i.records.items c.in-Some.place c.args.t was c.self.invariant s).kept

pub invariant_of-self-then-run : goal.invariant_of-self-then-run
invariant_of-self-then-run c =
    let i = c.self.inside in
    let was = c.index_mut.result.now in
    let s = stands i.records.items c.deref.result.now c.in-Some.place c.args.t was c.deref.ensures.value c.in-Some.ensures.at c.index_mut.ensures.value in
    subst (AreKept i.next) (sym (c.remove-ended.ensures.items ∙ remove_set i.records.items c.in-Some.place c.make_steps.new.kept)) (stands_removed i.next i.records.items c.in-Some.place c.args.t was c.self.invariant s).kept

pub returns-then-run-clause-bursts : goal.returns-then-run-clause-bursts
returns-then-run-clause-bursts c = λ w threads image still.
    let i = c.self.inside in
    let was = c.index_mut.result.now in
    let s = stands i.records.items c.deref.result.now c.in-Some.place c.args.t was c.deref.ensures.value c.in-Some.ensures.at c.index_mut.ensures.value in
    let place = c.in-Some.place in
    let now = c.make_steps.new in
    let end = c.sweep.new.outs in
    let run = c.in-Ok.run' in
    let shows = stands_shows i.next i.records.items place c.args.t was c.self.invariant s w c.args.image.now c.args.self.now c.self.view_is threads image still in
    let ran = subst (λ b. Runs w c.args.max was c.args.outs.now now.kept now.image now.outs run.steps b) c.if-run.true (c.in-Ok.ensures.runs w shows) in
    let ended = set_read i.records.items place now.kept c.remove-ended.result (stands_within i.records.items place c.args.t was s) c.remove-ended.ensures.value in
    let swept = c.in_ok-sweep-in-Ok.ensures ∙ ap (λ ms. now.outs ++ swept_from ms) c.into_mailbox.ensures ∙ ap (λ (r : Record). now.outs ++ swept_from r.mailbox) ended in
    let removed = (stands_removed i.next i.records.items place c.args.t was c.self.invariant s).threads in
    let is =
    ap (threads_of i.next) (c.remove-ended.ensures.items ∙ remove_set i.records.items place now.kept) ∙ removed
    ∙ ap (λ (ts : List (Option Thread)). slice_set ts c.args.t None) (c.self.view_is ∙ sym threads)
    ∙ ap (λ (t : ℕ). slice_set w.threads t None) (sym s.number) in
    let burst = burst_over w c.args.max run.steps was now.kept c.args.image.now now.image c.args.outs.now now.outs end (threads_of i.next c.remove-ended.new.self.items) shows ran swept is in
    subst (λ (t : ℕ). IsBurst w c.args.max t c.args.outs.now (threads_of i.next c.remove-ended.new.self.items) now.image end run.steps run.over) s.number
    (subst (λ b. IsBurst w c.args.max (number_of was) c.args.outs.now (threads_of i.next c.remove-ended.new.self.items) now.image end run.steps b) (sym c.if-run.true) burst)

pub invariant_of-self-in-Ok : goal.invariant_of-self-in-Ok
invariant_of-self-in-Ok c =
    let i = c.self.inside in
    let was = c.index_mut.result.now in
    let s = stands i.records.items c.deref.result.now c.in-Some.place c.args.t was c.deref.ensures.value c.in-Some.ensures.at c.index_mut.ensures.value in
    let place = c.in-Some.place in
    let now = c.make_steps.new in
    let last = c.give_back.new.self in
    let read = set_read i.records.items place now.kept c.index_mut-in-Ok.result.now (stands_within i.records.items place c.args.t was s) c.index_mut-in-Ok.ensures.value in
    let machine = c.give_back.ensures.machine ∙ ap (λ (r : Record). r.machine) read in
    let number = ap (λ (m : Machine). m.thread) machine ∙ c.in-Ok.ensures.number in
    let simple = ap (λ (m : Machine). are_simple m.stack.context) machine ∙ c.in-Ok.ensures.simple in
    subst (AreKept i.next) (sym (set-set i.records.items place now.kept last)) (stands_set i.next i.records.items place c.args.t was c.self.invariant s last number simple).kept

pub returns-else-run-clause-bursts : goal.returns-else-run-clause-bursts
returns-else-run-clause-bursts c = λ w threads image still.
    let i = c.self.inside in
    let was = c.index_mut.result.now in
    let s = stands i.records.items c.deref.result.now c.in-Some.place c.args.t was c.deref.ensures.value c.in-Some.ensures.at c.index_mut.ensures.value in
    let place = c.in-Some.place in
    let now = c.make_steps.new in
    let last = c.give_back.new.self in
    let run = c.in-Ok.run' in
    let read = set_read i.records.items place now.kept c.index_mut-in-Ok.result.now (stands_within i.records.items place c.args.t was s) c.index_mut-in-Ok.ensures.value in
    let machine = c.give_back.ensures.machine ∙ ap (λ (r : Record). r.machine) read in
    let number = ap (λ (m : Machine). m.thread) machine ∙ c.in-Ok.ensures.number in
    let simple = ap (λ (m : Machine). are_simple m.stack.context) machine ∙ c.in-Ok.ensures.simple in
    let back = c.give_back.ensures.thread ∙ ap (λ (r : Record). record (thread_of r) { lent = None }) read in
    let shows = stands_shows i.next i.records.items place c.args.t was c.self.invariant s w c.args.image.now c.args.self.now c.self.view_is threads image still in
    let ran = subst (λ b. Runs w c.args.max was c.args.outs.now now.kept now.image now.outs run.steps b) c.if-run.false (c.in-Ok.ensures.runs w shows) in
    let set = (stands_set i.next i.records.items place c.args.t was c.self.invariant s last number simple).threads in
    let all = slice_set (slice_set i.records.items place now.kept) place last in
    let is =
    ap (threads_of i.next) (set-set i.records.items place now.kept last) ∙ set
    ∙ ap (λ (ts : List (Option Thread)). slice_set ts c.args.t (Some (thread_of last))) (c.self.view_is ∙ sym threads)
    ∙ ap (λ (t : ℕ). slice_set w.threads t (Some (thread_of last))) (sym s.number)
    ∙ ap (λ (th : Thread). slice_set w.threads (number_of was) (Some th)) back in
    let burst = burst_goes w c.args.max run.steps was now.kept c.args.image.now now.image c.args.outs.now now.outs (threads_of i.next all) shows ran is in
    subst (λ (t : ℕ). IsBurst w c.args.max t c.args.outs.now (threads_of i.next all) now.image now.outs run.steps run.over) s.number
    (subst (λ b. IsBurst w c.args.max (number_of was) c.args.outs.now (threads_of i.next all) now.image now.outs run.steps b) (sym c.if-run.false) burst)
