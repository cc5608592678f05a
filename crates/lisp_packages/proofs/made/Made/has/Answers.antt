use Rattle.std.proofs.Common.{◌∙◌}
use Rattle.lisp_packages.specs.Made.{has_made}
use Rattle.lisp_packages.proofs.SetLemmas.{list_any-same_key}
use Rattle.lisp_packages.proofs.made.Made.has.Goals as goal

pub returns : goal.returns
returns c = c.contains.ensures ∙ list_any-same_key c.self.inside.set.keys (record { place = c.args.place; name = c.in_ok-from_str.field-0 }) ∙ (λ k. has_made (c.self.view_is k) c.args.place (c.in_ok-from_str.ensures.ok k))
