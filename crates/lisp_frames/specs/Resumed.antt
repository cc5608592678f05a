-- A layer that is given the value of the term inside it.
use Rattle.std.specs.Prelude.{Bool, true, Option, Some, None, ◌∷◌, unwrap_or}
use Rattle.lisp_data.specs.declared.value.Value.{Value}
use Rattle.term_model.specs.declared.focus.Focus.TheVariants as focus
use Rattle.term_model.specs.declared.found.Found.{Found}
use Rattle.term_model.specs.declared.found.Found.TheVariants as found
use Rattle.term_model.specs.declared.frame.Frame.TheVariants as frame
use Rattle.term_model.specs.declared.kept.Outcome.TheVariants as outcome
use Rattle.term_model.specs.declared.plain.Plain.{Plain}
use Rattle.term_model.specs.GoingIn.{resumed}
use Rattle.term_model.specs.Room.{Entered}
use Rattle.term_model.specs.Term.{Context}
use Rattle.lisp_frames.specs.Stack.{StackState, outer, with_context, with_redex}

-- what the form meets next whose layer is directly around the redex
abbrev pub next_in : Context → Value → Option Found
next_in (frame.On p ∷ c) v = resumed p v
next_in _ v = None

-- the stack without that layer, or with the value in it
abbrev pub resumed_to : Option Found → Value → StackState → StackState
resumed_to (Some f) v s = with_context (outer s.context) s
resumed_to None v s = with_redex (focus.Given (outcome.Value v)) s

-- a marker where there is no room: it stands where it is the last and holds a value
abbrev pub last_laid : Plain → Bool → Context → Found → Entered
last_laid p true c (found.Already v) = record { around = frame.On p ∷ c; redex = Some (focus.Given (outcome.Value v)) }
last_laid p _ c f = record { around = c; redex = None }

-- the stack that going in has made, which keeps its redex where there was no room
abbrev pub entered : Entered → StackState → StackState
entered e s = record { context = e.around; redex = unwrap_or e.redex s.redex; serial = s.serial }
