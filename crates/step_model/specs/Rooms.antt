-- How many layers every term has: no redex has more around it than the limit, one more between an interrupt and the next step.
use Rattle.std.specs.Prelude.{ℕ, ◌+◌, ◌≤◌, Bool, true, false, [], ◌∷◌}
use Rattle.term_model.specs.declared.focus.Focus.{Focus}
use Rattle.term_model.specs.declared.focus.Focus.TheVariants as focus
use Rattle.term_model.specs.declared.frame.Frame.{Frame}
use Rattle.term_model.specs.declared.frame.Frame.TheVariants as frame
use Rattle.term_model.specs.declared.plain.Plain.TheVariants as plain
use Rattle.term_model.specs.declared.restart.Action.{Action}
use Rattle.term_model.specs.declared.restart.Action.TheVariants.{Give, Run}
use Rattle.term_model.specs.Room.{layers, levels, limit}
use Rattle.term_model.specs.Term.{Context}
use Rattle.step_model.specs.Facts.{bares}

abbrev pub is_giving : Action → Bool
is_giving (Give o) = true
is_giving (Run clause) = false

-- a layer with one restart that gives an outcome, as the one of an interrupt
abbrev pub is_offering : Frame → Bool
is_offering (frame.On (plain.Restarts (o ∷ []))) = is_giving o.action
is_offering _ = false

abbrev pub number_if : ℕ → Bool → ℕ
number_if n true = n
number_if n false = 0

-- how far past the limit the layers outside a level may be: the interrupt's restart, and what it was put round
abbrev pub extra : Context → ℕ
extra [] = 0
extra (l ∷ c) = number_if 2 (is_offering l)

-- what a layer asks of what is outside it
abbrev pub LayerRoom : Frame → Context → Type 0
LayerRoom (frame.Sldb n condition again) c = layers c ≤ limit (levels c) + extra c
LayerRoom (frame.Ask kind tag) c = layers c + 1 ≤ limit (levels c)
LayerRoom _ c = Unit {0}

abbrev pub LayersRoom : Context → Type 0
LayersRoom [] = Unit {0}
LayersRoom (l ∷ c) = LayerRoom l c × LayersRoom c

-- what a redex asks. The layer directly around an outcome is part of the redex
abbrev pub RedexRoom : Focus → Context → Type 0
RedexRoom (focus.Given o) c = layers c ≤ limit (levels c) + 1
RedexRoom _ c = layers c ≤ limit (levels c)

-- what it asks between an interrupt and the next step
abbrev pub BrokenRoom : Focus → Context → Type 0
BrokenRoom (focus.Break o) c = layers c ≤ limit (levels c) + 1
BrokenRoom focus.Abort c = layers c ≤ limit (levels c) + 1
BrokenRoom f c = RedexRoom f c

pub record HasRoom (c : Context) (f : Focus) : Type 0 where
  pub layers : LayersRoom (bares c)
  pub redex : RedexRoom f (bares c)

-- the same between an interrupt and the next step
pub record HasRoomBroken (c : Context) (f : Focus) : Type 0 where
  pub layers : LayersRoom (bares c)
  pub redex : BrokenRoom f (bares c)
