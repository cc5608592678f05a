-- How many layers a thread may have: 20,000, and 500 more for each open level of the debugger. And going in as far as there is room.
use Rattle.std.specs.Prelude.{ℕ, Bool, nat_le, zero, suc, ◌+◌, ◌-◌, ◌*◌, List, [], ◌∷◌, length, Option, Some, None}
use Rattle.term_model.specs.declared.focus.Focus.{Focus}
use Rattle.term_model.specs.declared.focus.Focus.TheVariants.{Given}
use Rattle.term_model.specs.declared.found.Found.{Found}
use Rattle.term_model.specs.declared.found.Found.TheVariants.{Already, Here, Inside}
use Rattle.term_model.specs.declared.frame.Frame.TheVariants as frame
use Rattle.term_model.specs.declared.kept.Outcome.TheVariants as outcome
use Rattle.term_model.specs.declared.plain.Plain.{Plain}
use Rattle.term_model.specs.declared.plain.Plain.TheVariants as plain
use Rattle.term_model.specs.GoingIn.{look}
use Rattle.term_model.specs.Term.{Context}

-- how many levels of the debugger are open
abbrev pub levels : Context → ℕ
levels [] = 0
levels (frame.Sldb n c again ∷ ls) = levels ls + 1
levels (_ ∷ ls) = levels ls

-- how many layers there are, the top among them
abbrev pub layers : Context → ℕ
layers c = length c + 1

-- how many there may be with this many levels open
unfoldable pub limit : ℕ → ℕ
limit k = 20000 + 500 * k

-- how many more there may be
abbrev pub room : Context → ℕ
room c = limit (levels c) - layers c

-- whether the layers are within their limit. One more may stand: a marker that was made round a value, and what an interrupt puts off
abbrev pub is_within : Context → Bool
is_within c = nat_le (layers c) (limit (levels c))

-- a context and its redex, or None where there was no room for a further layer
pub record Entered : Type 0 where
  pub around : Context
  pub redex : Option Focus

-- going in as far as there is room for layers
abbrev pub enter : ℕ → Context → Found → Entered
enter space c (Already v) = record { around = c; redex = Some (Given (outcome.Value v)) }
enter space c (Here f) = record { around = c; redex = Some f }
enter zero c (Inside p e) = record { around = c; redex = None }
enter (suc space) c (Inside p e) = enter space (frame.On (plain.Form p) ∷ c) (look e)

-- the same inside new markers, the outermost first. A marker that holds a value is itself the redex, so it needs no room
abbrev pub wrap : ℕ → Context → List Plain → Found → Entered
wrap space c [] found = enter space c found
wrap zero c (p ∷ []) (Already v) = record { around = frame.On p ∷ c; redex = Some (Given (outcome.Value v)) }
wrap zero c (p ∷ ps) found = record { around = c; redex = None }
wrap (suc space) c (p ∷ ps) found = wrap space (frame.On p ∷ c) ps found
