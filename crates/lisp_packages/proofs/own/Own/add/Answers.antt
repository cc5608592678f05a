use Rattle.std.proofs.Common.{◌≡◌, ◌∙◌, ◌-◌, ap, false, is_some, take, length, rules}
use Rattle.lisp_packages.specs.Entries.{entry_of}
use Rattle.lisp_packages.proofs.OwnLemmas.{put_entry-added, put_entry-new, none_of, take-push}
use Rattle.lisp_packages.proofs.own.Own.add.Goals as goal

pub returns-clause-ok : goal.returns-clause-ok
returns-clause-ok c =
    let absent : is_some (entry_of c.args.self.now c.args.entry.symbol.name) ≡ false = search rules in
    c.in_ok-put.ensures.ok ∙ put_entry-added c.args.self.now c.args.entry absent

pub returns-clause-told : goal.returns-clause-told
returns-clause-told c t =
    let absent : is_some (entry_of c.args.self.now c.args.entry.symbol.name) ≡ false = search rules in
    ap (λ own. take (length own - 1) own) (c.in_ok-put.ensures.ok ∙ put_entry-new c.args.self.now c.args.entry (none_of (entry_of c.args.self.now c.args.entry.symbol.name) absent))
    ∙ take-push c.args.self.now c.args.entry
