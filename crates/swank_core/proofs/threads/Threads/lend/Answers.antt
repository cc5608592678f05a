use Rattle.std.proofs.Common.{sym}
use Rattle.swank_core.specs.Threads.{lent_to}
use Rattle.swank_core.proofs.TableLemmas.{changed_none, kept_ascending, none_live, stands, stands_changed, stands_set, stands_simple}
use Rattle.swank_core.proofs.threads.Threads.lend.Goals as goal

pub find-requires : goal.find-requires
find-requires c = record { ascending = kept_ascending c.self.inside.next c.self.inside.records.items c.deref.result.now c.self.invariant c.deref.ensures.value }

pub invariant_of-self : goal.invariant_of-self
invariant_of-self c =
    let i = c.self.inside in
    let was = c.index_mut.result.now in
    let s = stands i.records.items c.deref.result.now c.in-Some.place c.args.t was c.deref.ensures.value c.in-Some.ensures.at c.index_mut.ensures.value in
    let simple = stands_simple i.next i.records.items c.in-Some.place c.args.t was c.self.invariant s in
    (stands_set i.next i.records.items c.in-Some.place c.args.t was c.self.invariant s c.lend.new.self c.lend.ensures.number (c.lend.ensures.simple simple)).kept

pub returns-in-Some-clause-lent : goal.returns-in-Some-clause-lent
returns-in-Some-clause-lent c =
    let i = c.self.inside in
    let was = c.index_mut.result.now in
    let s = stands i.records.items c.deref.result.now c.in-Some.place c.args.t was c.deref.ensures.value c.in-Some.ensures.at c.index_mut.ensures.value in
    let simple = stands_simple i.next i.records.items c.in-Some.place c.args.t was c.self.invariant s in
    stands_changed i.next i.records.items c.in-Some.place c.args.t was c.self.invariant s (lent_to c.args.seat) c.lend.new.self c.args.self.now c.self.view_is c.lend.ensures.number (c.lend.ensures.simple simple) c.lend.ensures.thread

pub returns-in_default-clause-lent : goal.returns-in_default-clause-lent
returns-in_default-clause-lent c =
    let i = c.self.inside in
    sym (changed_none (lent_to c.args.seat) c.args.t c.args.self.now (none_live i.next i.records.items c.deref.result.now c.args.t c.args.self.now c.self.invariant c.self.view_is c.deref.ensures.value c.in_default.ensures.none))
