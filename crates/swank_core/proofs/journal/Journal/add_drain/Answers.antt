use Rattle.std.proofs.Common.{◌++◌, ◌∷◌, [], sym, ap, ◌∙◌}
use Rattle.session_model.specs.declared.event.Event.TheVariants as event
use Rattle.swank_core.proofs.JournalLemmas.{none_apart}
use Rattle.swank_core.proofs.journal.Journal.add_drain.Goals as goal

pub returns : goal.returns
returns c =
    let apart = rw (← c.self.view_is) at c.requires.apart in
    ap (λ xs. xs ++ record { seat = c.args.seat; event = event.Drain c.args.count } ∷ []) (sym (none_apart c.self.inside.entries.items c.self.inside.drain c.self.invariant apart) ∙ c.self.view_is)
