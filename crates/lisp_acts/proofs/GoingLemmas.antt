-- Giving and going on, by what is directly around.
use Rattle.std.proofs.Common.{◌≡◌, [], ◌∷◌, Some, sym, ap}
use Rattle.lisp_data.specs.declared.value.Value.{Value}
use Rattle.lisp_frames.specs.Resumed.{next_in}
use Rattle.lisp_frames.specs.Stack.{StackState, outer, with_context}
use Rattle.step_model.specs.Now.{Now, around}
use Rattle.step_model.specs.Perform.{given, gives, gives_in, lays}
use Rattle.term_model.specs.declared.found.Found.{Found}
use Rattle.term_model.specs.declared.frame.Frame.TheVariants as frame
use Rattle.term_model.specs.declared.kept.Outcome.TheVariants as outcome
use Rattle.term_model.specs.Term.{Context}
use Rattle.lisp_acts.specs.Amid.{Rest, amid}

gives_in_on : (n : Now) (c : Context) (v : Value) (found : Found) → Some found ≡ next_in c v → gives_in n c (outcome.Value v) ≡ lays (around n (outer c)) [] found
gives_in_on n (frame.On p ∷ c) v found e = ap (given n p c v) (sym e)
gives_in_on n [] v found e = absurd (cc)
gives_in_on n (frame.Protect k cleanup ∷ c) v found e = absurd (cc)
gives_in_on n (frame.Cleanup k saved ∷ c) v found e = absurd (cc)
gives_in_on n (frame.Rex i id form ∷ c) v found e = absurd (cc)
gives_in_on n (frame.Sldb k condition again ∷ c) v found e = absurd (cc)
gives_in_on n (frame.Ask kind tag ∷ c) v found e = absurd (cc)

-- a form that waits for a value goes on with it
pub gives_on : (r : Rest) (s : StackState) (v : Value) (found : Found) → Some found ≡ next_in s.context v → gives (amid r s) (outcome.Value v) ≡ lays (amid r (with_context (outer s.context) s)) [] found
gives_on r s v found e = gives_in_on (amid r s) s.context v found e
