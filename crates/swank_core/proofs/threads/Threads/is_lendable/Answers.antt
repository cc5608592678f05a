use Rattle.std.proofs.Common.{false, sym, ap, ◌∙◌}
use Rattle.std.specs.Option.{option_map_or}
use Rattle.session_model.specs.Legal.{is_lendable}
use Rattle.swank_core.proofs.TableLemmas.{kept_ascending, none_live, stands, stands_live}
use Rattle.swank_core.proofs.threads.Threads.is_lendable.Goals as goal

pub find-requires : goal.find-requires
find-requires c = record { ascending = kept_ascending c.self.inside.next c.self.inside.records.items c.deref.result.now c.self.invariant c.deref.ensures.value }

pub returns-in-None : goal.returns-in-None
returns-in-None c =
    let i = c.self.inside in
    sym (ap (λ o. option_map_or is_lendable o false) (none_live i.next i.records.items c.deref.result.now c.args.t c.args.self.now c.self.invariant c.self.view_is c.deref.ensures.value c.in-None.ensures.none))

pub returns-in-Some : goal.returns-in-Some
returns-in-Some c =
    let i = c.self.inside in
    let s = stands i.records.items c.deref.result.now c.in-Some.at c.args.t c.index.result.now c.deref.ensures.value c.in-Some.ensures.at c.index.ensures in
    c.is_lendable.ensures ∙ sym (ap (λ o. option_map_or is_lendable o false) (stands_live i.next i.records.items c.in-Some.at c.args.t c.index.result.now c.self.invariant s c.args.self.now c.self.view_is))
