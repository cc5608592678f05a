-- Searching a context from the redex outwards, and changing the first layer that is found.
use Rattle.std.specs.Prelude.{ℕ, ◌+◌, ◌-◌, ◌==◌, if◌then◌else◌, [], ◌∷◌, length, drop, Option, Some, None, option_map}
use Rattle.term_model.specs.declared.frame.Frame.{Frame}
use Rattle.term_model.specs.Term.{Context}

-- what a layer says to a search: here it is, nobody looks further out, or look further out
pub data Sight (A : Type 0) : Type 0 where
  Here : A → Sight A
  Ends : Sight A
  Past : Sight A

module _ {A : Type 0} where
  abbrev pub seen : Sight A → Option A → Option A
  seen (Here a) further = Some a
  seen Ends further = None
  seen Past further = further

  -- what the nearest layer says that doesn't say to look further out; it is told its number, counted from the top, which is 0
  abbrev pub nearest : (ℕ → Frame → Sight A) → Context → Option A
  nearest look [] = None
  nearest look (l ∷ c) = seen (look (length c + 1) l) (nearest look c)

abbrev pub changed_by : Frame → Context → Sight Frame → Option Context → Option Context
changed_by l c (Here new) further = Some (new ∷ c)
changed_by l c Ends further = None
changed_by l c Past further = option_map (λ d. l ∷ d) further

-- the context with the nearest such layer in its new state
abbrev pub changed : (Frame → Sight Frame) → Context → Option Context
changed look [] = None
changed look (l ∷ c) = changed_by l c (look l) (changed look c)

-- the layer of this number, counted from the top, which is 0 and no layer of the context
abbrev pub layer_at : ℕ → Context → Option Frame
layer_at n [] = None
layer_at n (l ∷ c) = if n == length c + 1 then Some l else layer_at n c

-- what is outside the layer of this number; of the top itself, nothing
abbrev pub outside : ℕ → Context → Context
outside n c = drop (length c - (n - 1)) c
