use Rattle.std.proofs.Common.{◌∙◌, ◌++◌, ◌∷◌, [], ap, map}
use Rattle.lisp_packages.specs.Made.{has_made}
use Rattle.lisp_packages.proofs.SetLemmas.{pair_of, insert_key-new}
use Rattle.lisp_packages.proofs.made.Made.add.Goals as goal

pub returns : goal.returns
returns c = ap (map pair_of) c.in_ok-insert.ensures.keys
    ∙ insert_key-new c.self.inside.set.keys (record { place = c.args.place; name = c.in_ok-from_str.field-0 }) ((λ k. has_made (c.self.view_is k) c.args.place (c.in_ok-from_str.ensures.ok k)) ∙ c.requires)
    ∙ (λ k. c.self.view_is k ++ (c.args.place, c.in_ok-from_str.ensures.ok k) ∷ [])
