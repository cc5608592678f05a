-- What the laws see of a thread: the marks of its layers, the innermost first, with its next serial and its mailbox.
use Rattle.std.specs.Prelude.{ℕ, ℤ, ◌+◌, List, [], ◌∷◌, ◌++◌}
use Rattle.term_model.specs.declared.frame.Frame.{Frame}
use Rattle.term_model.specs.declared.frame.Frame.TheVariants as frame
use Rattle.term_model.specs.declared.question.Ask.{Ask}
use Rattle.term_model.specs.Term.{Context}
use Rattle.step_model.specs.Now.{Mailbox, Now}

-- `k` is a serial, `i` the place of an arrival, `n` the number of a level
pub data Mark : Type 0 where
  Protected : (k : ℕ) → Mark
  Cleaning : (k : ℕ) → Mark
  Serving : (i : ℕ) (id : ℤ) → Mark
  Level : (n : ℕ) → Mark
  Asking : Ask → (tag : ℕ) → Mark

-- a plain layer has none
abbrev pub mark_of : Frame → List Mark
mark_of (frame.On p) = []
mark_of (frame.Protect k cleanup) = Protected k ∷ []
mark_of (frame.Cleanup k saved) = Cleaning k ∷ []
mark_of (frame.Rex i id form) = Serving i id ∷ []
mark_of (frame.Sldb n condition again) = Level n ∷ []
mark_of (frame.Ask kind tag) = Asking kind tag ∷ []

abbrev pub marks : Context → List Mark
marks [] = []
marks (l ∷ c) = mark_of l ++ marks c

-- the number of levels
abbrev pub depth : List Mark → ℕ
depth [] = 0
depth (Level n ∷ ms) = depth ms + 1
depth (_ ∷ ms) = depth ms

pub record State : Type 0 where
  pub marks : List Mark
  pub serial : ℕ
  pub mailbox : Mailbox

abbrev pub state_of : Now → State
state_of n = record { marks = marks n.context; serial = n.serial; mailbox = n.mailbox }
