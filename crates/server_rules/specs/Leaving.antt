-- Leaving by the innermost visible ABORT. In simple layers that is the top's: all layers go, inner first, and each request among them
-- tells that it was aborted.
use Rattle.std.specs.Prelude.{ℕ, true, List, [], ◌∷◌}
use Rattle.rpc_messages.specs.declared.pattern.Pattern.TheVariants as pattern
use Rattle.rpc_messages.specs.declared.to_emacs.Returned.TheVariants as returned
use Rattle.rpc_messages.specs.declared.to_emacs.ToEmacs.{ToEmacs}
use Rattle.rpc_messages.specs.declared.to_emacs.ToEmacs.TheVariants as message
use Rattle.step_model.specs.Now.{Now, puts}
use Rattle.term_model.specs.declared.focus.Focus.TheVariants as focus
use Rattle.term_model.specs.declared.frame.Frame.TheVariants as frame
use Rattle.term_model.specs.Label.{Label, Ended, Out}
use Rattle.term_model.specs.Term.{Context}

-- what thread t tells once all these layers are left
abbrev pub left_all : ℕ → Context → List Label
left_all t [] = []
left_all t (frame.Rex i id form ∷ c) = Ended t i returned.Abort ∷ Out (message.Return id returned.Abort) ∷ left_all t c
left_all t (_ ∷ c) = left_all t c

-- what it writes
abbrev pub aborts : Context → List ToEmacs
aborts [] = []
aborts (frame.Rex i id form ∷ c) = message.Return id returned.Abort ∷ aborts c
aborts (_ ∷ c) = aborts c

-- the thread once it has left them: it waits at its top
abbrev pub left : Now → Now
left n = record (puts n [] (focus.Wait pattern.Rex)) { labels = left_all n.thread n.context; over = true }
