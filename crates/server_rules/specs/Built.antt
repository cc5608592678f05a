-- What of the table of steps the program can do so far.
use Rattle.std.specs.Prelude.{Bool, true, false, ◌∷◌}
use Rattle.swank_rpc.specs.Calls.{is_served}
use Rattle.step_model.specs.Built.{Built}
use Rattle.term_model.specs.declared.focus.Focus.{Focus}
use Rattle.term_model.specs.declared.focus.Focus.TheVariants as focus
use Rattle.term_model.specs.declared.frame.Frame.TheVariants as frame
use Rattle.term_model.specs.Term.{Context}

-- messages, the forms of a text, leaving, and an outcome in a plain layer or a request
abbrev pub has_row : Context → Focus → Bool
has_row c (focus.Wait p) = true
has_row c (focus.Forms forms origin) = true
has_row c focus.Abort = true
has_row (frame.On p ∷ c) (focus.Given o) = true
has_row (frame.Rex i id form ∷ c) (focus.Given o) = true
has_row c f = false

abbrev pub built : Built
built = record { has_row = has_row; serves = is_served; raises = false; levels = 0; interrupts = false }
