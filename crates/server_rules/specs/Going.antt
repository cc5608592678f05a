-- Going on inside simple layers.
use Rattle.std.specs.Prelude.{Bool, true, false, List, None, unwrap_or}
use Rattle.step_model.specs.Now.{Now, puts}
use Rattle.term_model.specs.declared.focus.Focus.TheVariants as focus
use Rattle.term_model.specs.declared.found.Found.{Found}
use Rattle.term_model.specs.declared.plain.Plain.{Plain}
use Rattle.term_model.specs.Room.{Entered, room, wrap}
use Rattle.term_model.specs.Term.{Context}

-- these markers and this form, where the layers are within their limit
abbrev pub entered : Bool → Context → List Plain → Found → Entered
entered true c ps found = wrap (room c) c ps found
entered false c ps found = record { around = c; redex = None }

-- the thread there; where there was no room for a layer it leaves next
abbrev pub laid_in : Now → Entered → Now
laid_in n e = puts n e.around (unwrap_or e.redex focus.Abort)
