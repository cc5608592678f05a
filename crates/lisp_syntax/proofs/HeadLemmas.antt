-- The head of a form takes no more subforms than its row lists.
use Rattle.std.proofs.Common.{◌≡◌, List, [], ◌∷◌, length, take, refl, ap}
use Rattle.lisp_data.specs.declared.symbol.Symbol.{Symbol}
use Rattle.lisp_data.specs.declared.value.Value.{Value}
use Rattle.lisp_data.specs.declared.value.Value as value
use Rattle.lisp_syntax.specs.Rows.{assignment_forms, spread}

pub spread_take : {A : Type 0} (form : A → Value → Value) (xs : List A) (es : List Value) → spread form xs (take (length xs) es) ≡ spread form xs es
spread_take form [] es = refl
spread_take form (x ∷ xs) [] = refl
spread_take form (x ∷ xs) (e ∷ es) = ap (λ rest. form x e ∷ rest) (spread_take form xs es)

pub assignments_take : (vs : List Symbol) (es : List Value) → assignment_forms vs (take (length vs) es) ≡ assignment_forms vs es
assignments_take [] es = refl
assignments_take (v ∷ vs) [] = refl
assignments_take (v ∷ vs) (e ∷ es) = ap (λ rest. value.Sym v ∷ e ∷ rest) (assignments_take vs es)
