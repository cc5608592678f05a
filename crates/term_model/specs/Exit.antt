-- An exit (HyperSpec 5.2): it goes outwards through a context, and stops at the innermost protected form that it meets, whose cleanup
-- runs with the exit kept. What it drops tells its own labels, so the inner ones come first.
use Rattle.std.specs.Prelude.{ℕ, zero, suc, ◌-◌, Bool, true, false, ◌||◌, List, [], ◌∷◌, ◌++◌, length, Option, Some, None}
use Rattle.rpc_messages.specs.declared.to_emacs.Returned.TheVariants as returned
use Rattle.rpc_messages.specs.declared.to_emacs.ToEmacs.TheVariants as message
use Rattle.syntax_trees.specs.declared.ast.Ast.{Ast}
use Rattle.term_model.specs.declared.frame.Frame.{Frame}
use Rattle.term_model.specs.declared.frame.Frame.TheVariants as frame
use Rattle.term_model.specs.declared.kept.Saved.{Saved}
use Rattle.term_model.specs.declared.question.Ask.{Ask}
use Rattle.term_model.specs.declared.question.Ask.TheVariants as question
use Rattle.term_model.specs.Label.{Label, Ended, Out, Closed, Cleanup}
use Rattle.term_model.specs.Term.{Context}

-- what an exit leaves
pub record Left : Type 0 where
  -- what remains around
  pub around : Context
  -- what was dropped, inner first
  pub labels : List Label
  -- whether a level or a request was dropped
  pub stirred : Bool
  -- the cleanup that runs first, if one does
  pub todo : Option (List Ast)

-- what a dropped question writes: one for a line says that it is off
abbrev pub question_dropped : ℕ → Ask → ℕ → List Label
question_dropped t question.String tag = Out (message.ReadAborted t tag) ∷ []
question_dropped t question.YesNo tag = []

-- what a dropped layer of thread t tells
abbrev pub dropped : ℕ → Frame → List Label
dropped t (frame.On p) = []
dropped t (frame.Protect k cleanup) = []
dropped t (frame.Cleanup k saved) = []
dropped t (frame.Rex i id form) = Ended t i returned.Abort ∷ Out (message.Return id returned.Abort) ∷ []
dropped t (frame.Sldb n condition again) = Closed t n ∷ Out (message.DebugReturn t n) ∷ []
dropped t (frame.Ask kind tag) = question_dropped t kind tag

abbrev pub stirs : Frame → Bool
stirs (frame.Rex i id form) = true
stirs (frame.Sldb n condition again) = true
stirs _ = false

abbrev pub past : ℕ → Frame → Left → Left
past t l left = record { around = left.around; labels = dropped t l ++ left.labels; stirred = stirs l || left.stirred; todo = left.todo }

abbrev pub arrived : Context → Left
arrived c = record { around = c; labels = []; stirred = false; todo = None }

-- the exit of thread t past this many layers, which keeps this exit at the cleanup that it meets
abbrev pub leave : ℕ → Saved → ℕ → Context → Left
leave t exit zero c = arrived c
leave t exit (suc d) [] = arrived []
leave t exit (suc d) (frame.Protect k cleanup ∷ c) =
    record { around = frame.Cleanup k exit ∷ c; labels = Cleanup t k ∷ []; stirred = false; todo = Some cleanup }
leave t exit (suc d) (l ∷ c) = past t l (leave t exit d c)

-- how many layers an exit to the layer of this number goes past, that layer among them; the top is none
abbrev pub distance : ℕ → Context → ℕ
distance target c = length c - (target - 1)

-- the nearest level is to be announced again
abbrev pub again : Context → Context
again [] = []
again (frame.Sldb n condition told ∷ c) = frame.Sldb n condition true ∷ c
again (l ∷ c) = l ∷ again c

-- where a level or a request was dropped
abbrev pub stir : Bool → Context → Context
stir true c = again c
stir false c = c
