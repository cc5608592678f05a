use Rattle.std.proofs.Common.{◌∙◌, ap, Some, if◌then◌else◌}
use Rattle.std.specs.Map.{lookup}
use Rattle.std.specs.Str.{bytes_eq}
use Rattle.indexmap.specs.IndexMap.{get_by_text}
use Rattle.lisp_packages.proofs.TextLemmas.{is_text, lookup-insert_entry}
use Rattle.lisp_packages.proofs.index.set_place.Goals as goal

pub returns-clause-ok : goal.returns-clause-ok
returns-clause-ok c = λ t. ap (lookup (is_text t)) c.in_ok-insert.ensures.entries ∙ lookup-insert_entry t c.args.names.now.entries c.in_ok-text.text c.args.place
    ∙ (λ j. if bytes_eq (c.in_ok-text.ensures.ok j) t then Some c.args.place else get_by_text c.args.names.now t)
