use Rattle.std.proofs.Common.{rules, ◌≡◌, [], ◌∷◌, Some, sym, subst}
use Rattle.atomic_table.specs.Table.{opening}
use Rattle.turnstile.specs.Rule.{IsOrderly}
use Rattle.turnstile.specs.Seats.{first_view}
use Rattle.turnstile.proofs.RuleLemmas.{opens}
use Rattle.turnstile.proofs.hall.Hall.open.Goals as goal

pub new-requires : goal.new-requires
new-requires g c = let is : c.push_reserved.new.self.items ≡ Some c.args.value ∷ [] = search rules in
    subst (λ l. IsOrderly g.V.Kept.number_of g.V.Kept.history (opening (0 ∷ 0 ∷ c.changes-changes.result ∷ 0 ∷ []) l first_view)) (sym is) (opens g.V.Kept.number_of g.V.Kept.history c.changes-changes.result c.args.value c.requires)
