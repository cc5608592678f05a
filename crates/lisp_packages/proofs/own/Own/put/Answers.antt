use Rattle.std.proofs.Common.{◌∙◌, ap, rules}
use Rattle.std.specs.Map.{values_of}
use Rattle.lisp_packages.specs.Entries.{put_entry}
use Rattle.lisp_packages.proofs.OwnLemmas.{values-insert_entry, IsKeyed-insert_entry}
use Rattle.lisp_packages.proofs.own.Own.put.Goals as goal

pub invariant_of-self-2 : goal.invariant_of-self-2
invariant_of-self-2 c = rw c.in_ok-insert.ensures.entries (IsKeyed-insert_entry c.self.inside.map.entries _ c.args.entry c.self.invariant (search rules))

pub returns-clause-ok : goal.returns-clause-ok
returns-clause-ok c = ap values_of c.in_ok-insert.ensures.entries ∙ values-insert_entry c.self.inside.map.entries _ c.args.entry c.self.invariant (search rules) ∙ ap (λ own. put_entry own c.args.entry) c.self.view_is
