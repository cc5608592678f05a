use Rattle.std.proofs.Common.{◌∙◌}
use Rattle.swank_core.proofs.TableLemmas.{is_found, kept_ascending}
use Rattle.swank_core.proofs.threads.Threads.is_live.Goals as goal

pub find-requires : goal.find-requires
find-requires c = record { ascending = kept_ascending c.self.inside.next c.self.inside.records.items c.deref.result.now c.self.invariant c.deref.ensures.value }

pub returns : goal.returns
returns c =
    let i = c.self.inside in
    c.is_some.ensures ∙ is_found i.next i.records.items c.deref.result.now c.args.t c.args.self.now c.self.invariant c.self.view_is c.deref.ensures.value c.find.result c.find.ensures.at c.find.ensures.none
