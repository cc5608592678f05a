-- Drains in a journal.
use Rattle.std.specs.Prelude.{Bool, true, false, List, [], ◌∷◌}
use Rattle.session_model.specs.declared.event.Entry.{Entry}
use Rattle.session_model.specs.declared.event.Event.{Event}
use Rattle.session_model.specs.declared.event.Event.TheVariants.{Drain}

abbrev pub is_drain : Event → Bool
is_drain (Drain k) = true
is_drain _ = false

-- whether the last entry is a drain
abbrev pub ends_with_drain : List Entry → Bool
ends_with_drain [] = false
ends_with_drain (e ∷ []) = is_drain e.event
ends_with_drain (e ∷ f ∷ j) = ends_with_drain (f ∷ j)
