-- An exit, by what it drops and where it comes to.
use Rattle.std.specs.Prelude.{ℕ, List, []}
use Rattle.lisp_control.specs.declared.left.Next.{Next}
use Rattle.lisp_control.specs.declared.left.Next.TheVariants as next
use Rattle.step_model.specs.Now.{Now}
use Rattle.step_model.specs.Perform.{goes}
use Rattle.term_model.specs.declared.kept.Leaving.{Leaving}
use Rattle.term_model.specs.declared.kept.Saved.TheVariants as saved
use Rattle.term_model.specs.Exit.{Left, distance, leave}
use Rattle.term_model.specs.GoingIn.{body}
use Rattle.term_model.specs.Label.{Label}
use Rattle.term_model.specs.Term.{Context}
use Rattle.lisp_acts.specs.Runs.{brought}
use Rattle.lisp_acts.specs.declared.runs.Runs.{Runs}

-- what thread t tells of the layers that an exit leaves
abbrev pub dropped : ℕ → Leaving → Context → List Label
dropped t x c = Left.labels (leave t (saved.Exit x.target x.bring) (distance x.target c) c)

-- the thread once the exit goes on where it has come to
abbrev pub landed : Now → Next → Runs → Now
landed n (next.Arrives b) r = brought n b r
landed n (next.Cleans k cleanup) r = goes n [] (body cleanup)
