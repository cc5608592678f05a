-- The stack of a thread: its term, as the redex and what is around it, and the serial of its next protected form.
use Rattle.std.specs.Prelude.{ℕ, zero, suc, ◌+◌, ◌==◌, Bool, nat_le, if◌then◌else◌, List, [], ◌∷◌, length, Option, Some, None}
use Rattle.lisp_data.specs.declared.value.Value.{Value}
use Rattle.rpc_messages.specs.declared.pattern.Pattern.TheVariants as pattern
use Rattle.term_model.specs.declared.focus.Focus.{Focus}
use Rattle.term_model.specs.declared.focus.Focus.TheVariants as focus
use Rattle.term_model.specs.declared.frame.Frame.{Frame}
use Rattle.term_model.specs.declared.frame.Frame.TheVariants as frame
use Rattle.term_model.specs.declared.plain.Plain.{Plain}
use Rattle.term_model.specs.declared.plain.Plain.TheVariants as plain
use Rattle.term_model.specs.Room.{layers, levels, limit}
use Rattle.term_model.specs.Term.{Context}
use Rattle.lisp_frames.specs.declared.changes.Change.{Change}
use Rattle.lisp_frames.specs.declared.changes.Change.TheVariants as change

pub record StackState : Type 0 where
  -- what is around the redex, the innermost layer first
  pub context : Context
  pub redex : Focus
  pub serial : ℕ

-- the stack of a thread that waits for its first request
abbrev pub fresh : StackState
fresh = record { context = []; redex = focus.Wait pattern.Rex; serial = 0 }

abbrev pub with_context : Context → StackState → StackState
with_context c s = record { context = c; redex = s.redex; serial = s.serial }

abbrev pub with_redex : Focus → StackState → StackState
with_redex f s = record { context = s.context; redex = f; serial = s.serial }

abbrev pub with_serial : ℕ → StackState → StackState
with_serial k s = record { context = s.context; redex = s.redex; serial = k }

-- one more layer directly around the redex
abbrev pub within : Frame → StackState → StackState
within l s = with_context (l ∷ s.context) s

-- the layer directly around the redex, if there is one
abbrev pub innermost : Context → Option Frame
innermost [] = None
innermost (l ∷ c) = Some l

-- what is around that layer
abbrev pub outer : Context → Context
outer [] = []
outer (l ∷ c) = c

-- whether there are as many layers as there may be
abbrev pub is_full : Context → Bool
is_full c = nat_le (limit (levels c)) (layers c)

-- the context with the layer of this number, counted from the top, which is 0, changed
abbrev pub changed_at : ℕ → (Frame → Frame) → Context → Context
changed_at n change [] = []
changed_at n change (l ∷ c) = if n == length c + 1 then change l ∷ c else l ∷ changed_at n change c

-- the list with the item at this place changed, if there is one
abbrev pub at_place : ℕ → (Frame → Frame) → List Frame → List Frame
at_place k change [] = []
at_place zero change (x ∷ xs) = change x ∷ xs
at_place (suc k) change (x ∷ xs) = x ∷ at_place k change xs

-- a level that is, or isn't, to be announced again
abbrev pub with_again : Bool → Frame → Frame
with_again again (frame.Sldb n condition told) = frame.Sldb n condition again
with_again again l = l

-- a binding with this value; every other layer stays as it is
abbrev pub with_value_in_plain : Value → Plain → Plain
with_value_in_plain v (plain.Lexical x w) = plain.Lexical x v
with_value_in_plain v (plain.Dynamic x w) = plain.Dynamic x v
with_value_in_plain v p = p

abbrev pub with_value : Value → Frame → Frame
with_value v (frame.On p) = frame.On (with_value_in_plain v p)
with_value v l = l

abbrev pub by_change : Change → Frame → Frame
by_change (change.Again again) = with_again again
by_change (change.Value v) = with_value v

-- what is given back of a value that was to be assigned
abbrev pub given_back : Value → Option Context → Option Value
given_back v (Some c) = None
given_back v None = Some v
