use Rattle.std.proofs.Common.{◌∙◌, ap, Some, if◌then◌else◌}
use Rattle.std.specs.Map.{lookup}
use Rattle.std.specs.Str.{bytes_eq}
use Rattle.indexmap.specs.IndexMap.{get_by_text}
use Rattle.lisp_packages.proofs.TextLemmas.{is_text, lookup-insert_entry}
use Rattle.lisp_image.proofs.places.set_in_home.Goals as goal

pub returns-clause-ok : goal.returns-clause-ok
returns-clause-ok c = λ n. ap (lookup (is_text n)) c.in_ok-insert.ensures.entries ∙ lookup-insert_entry n c.args.names.now.entries c.in_ok-name.name c.args.number
    ∙ (λ j. if bytes_eq (c.in_ok-name.ensures.ok j) n then Some c.args.number else get_by_text c.args.names.now n)
