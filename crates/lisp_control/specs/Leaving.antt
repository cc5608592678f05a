-- What an exit drops on its way (HyperSpec 5.2), by what is to be told of it, and the protected form at which it stops.
use Rattle.std.specs.Prelude.{◌≡◌, ℕ, zero, suc, Bool, true, false, ◌||◌, List, [], ◌∷◌, ◌++◌, Option, Some, None}
use Rattle.rpc_messages.specs.declared.to_emacs.Returned.TheVariants as returned
use Rattle.rpc_messages.specs.declared.to_emacs.ToEmacs.TheVariants as message
use Rattle.syntax_trees.specs.declared.ast.Ast.{Ast}
use Rattle.term_model.specs.declared.frame.Frame.{Frame}
use Rattle.term_model.specs.declared.frame.Frame.TheVariants as frame
use Rattle.term_model.specs.declared.kept.Bring.{Bring}
use Rattle.term_model.specs.declared.kept.Saved.{Saved}
use Rattle.term_model.specs.Exit as exit
use Rattle.term_model.specs.Exit.{question_dropped}
use Rattle.term_model.specs.Label.{Label, Ended, Out, Closed, Cleanup}
use Rattle.term_model.specs.Term.{Context}
use Rattle.lisp_control.specs.declared.left.Left.{Left}
use Rattle.lisp_control.specs.declared.left.Met.{Met}
use Rattle.lisp_control.specs.declared.left.Next.{Next}
use Rattle.lisp_control.specs.declared.left.Next.TheVariants as next
use Rattle.lisp_control.specs.declared.left.Way.{Way}
use Rattle.lisp_control.specs.declared.passed.Passed.{Passed}
use Rattle.lisp_control.specs.declared.passed.Passed.TheVariants as passed

-- ---- one layer

-- what is dropped with a layer, of what somebody is told
abbrev pub passed_by : Frame → List Passed
passed_by (frame.Rex i id form) = passed.Request i id ∷ []
passed_by (frame.Sldb n condition again) = passed.Level n ∷ []
passed_by (frame.Ask kind tag) = passed.Question kind tag ∷ []
passed_by _ = []

-- the protected form that a layer is
abbrev pub met_in : Frame → Option Met
met_in (frame.Protect k cleanup) = Some (record { serial = k; cleanup = cleanup })
met_in _ = None

-- what thread t tells of it
abbrev pub labels_of : ℕ → Passed → List Label
labels_of t (passed.Request i id) = Ended t i returned.Abort ∷ Out (message.Return id returned.Abort) ∷ []
labels_of t (passed.Level n) = Closed t n ∷ Out (message.DebugReturn t n) ∷ []
labels_of t (passed.Question kind tag) = question_dropped t kind tag

-- whether the nearest level is to be announced again, since it is the innermost now or a request ended in it
abbrev pub stirs : Passed → Bool
stirs (passed.Request i id) = true
stirs (passed.Level n) = true
stirs (passed.Question kind tag) = false

abbrev pub all_labels : ℕ → List Passed → List Label
all_labels t [] = []
all_labels t (p ∷ ps) = labels_of t p ++ all_labels t ps

abbrev pub any_stirs : List Passed → Bool
any_stirs [] = false
any_stirs (p ∷ ps) = stirs p || any_stirs ps

-- ---- the way outwards

-- what remains around, and what was dropped
pub record Reached : Type 0 where
  pub around : Context
  pub way : Way

abbrev pub reached : Context → Way → Reached
reached c way = record { around = c; way = way }

abbrev pub nothing_passed : Context → Reached
nothing_passed c = reached c (record { passed = []; met = None })

-- the same behind these
abbrev pub behind : List Passed → Reached → Reached
behind ps r = reached r.around (record { passed = ps ++ r.way.passed; met = r.way.met })

-- past one layer: at a protected form the way ends
abbrev pub past_layer : Option Met → List Passed → Context → Reached → Reached
past_layer None ps c further = behind ps further
past_layer (Some met) ps c further = reached c (record { passed = ps; met = Some met })

-- past so many layers, or up to the innermost protected form among them
abbrev pub passing : ℕ → Context → Reached
passing zero c = nothing_passed c
passing (suc d) [] = nothing_passed []
passing (suc d) (l ∷ c) = past_layer (met_in l) (passed_by l) c (passing d c)

-- ---- the exit

-- what is around once the cleanup of a form that was met stands in its place and keeps this exit
abbrev pub kept : Saved → Context → Option Met → Context
kept x c None = c
kept x c (Some met) = frame.Cleanup met.serial x ∷ c

abbrev pub next_of : Bring → Option Met → Next
next_of b None = next.Arrives b
next_of b (Some met) = next.Cleans met.serial met.cleanup

-- what arrives is what the exit brought
abbrev pub IsBrought : Bring → Next → Type 0
IsBrought b (next.Arrives x) = x ≡ b
IsBrought b (next.Cleans k cleanup) = Unit {0}

abbrev pub begun_of : ℕ → Next → List Label
begun_of t (next.Arrives b) = []
begun_of t (next.Cleans k cleanup) = Cleanup t k ∷ []

abbrev pub todo_of : Next → Option (List Ast)
todo_of (next.Arrives b) = None
todo_of (next.Cleans k cleanup) = Some cleanup

-- an exit of thread t that left this context behind and dropped that
abbrev pub left_behind : ℕ → Context → Left → exit.Left
left_behind t c left = record {
  around = c;
  labels = all_labels t left.passed ++ begun_of t left.next;
  stirred = any_stirs left.passed;
  todo = todo_of left.next;
}
