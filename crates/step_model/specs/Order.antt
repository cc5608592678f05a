-- What holds of the marks of every thread: levels are numbered from 1, from the outside, there are at most as many as there may be, and the serials
-- of protected forms and cleanups differ and are below the next.
use Rattle.std.specs.Prelude.{◌≡◌, ◌≢◌, ℕ, ◌+◌, ◌<◌, ◌≤◌, List, [], ◌∷◌}
use Rattle.term_model.specs.Breaks.{max_levels}
use Rattle.step_model.specs.Marks.{Mark, Protected, Cleaning, Level, State, depth}

abbrev pub AreNumbered : List Mark → Type 0
AreNumbered [] = Unit {0}
AreNumbered (Level n ∷ ms) = (n ≡ depth ms + 1) × AreNumbered ms
AreNumbered (_ ∷ ms) = AreNumbered ms

-- no mark has this serial
abbrev pub IsNew : ℕ → List Mark → Type 0
IsNew k [] = Unit {0}
IsNew k (Protected j ∷ ms) = (k ≢ j) × IsNew k ms
IsNew k (Cleaning j ∷ ms) = (k ≢ j) × IsNew k ms
IsNew k (_ ∷ ms) = IsNew k ms

-- the serials are below this one and differ
abbrev pub AreSerials : ℕ → List Mark → Type 0
AreSerials s [] = Unit {0}
AreSerials s (Protected k ∷ ms) = (k < s) × IsNew k ms × AreSerials s ms
AreSerials s (Cleaning k ∷ ms) = (k < s) × IsNew k ms × AreSerials s ms
AreSerials s (_ ∷ ms) = AreSerials s ms

pub record IsOrdered (x : State) : Type 0 where
  pub numbered : AreNumbered x.marks
  pub few : depth x.marks ≤ max_levels
  pub serials : AreSerials x.serial x.marks
