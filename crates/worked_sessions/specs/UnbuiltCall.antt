-- A session in which the thread of the REPL comes to a call, which is not built: the request is aborted.
use Rattle.std.specs.Prelude.{List, [], ◌∷◌, codes, pos}
use Rattle.lisp_data.specs.declared.sexp.Sexp.{Sexp}
use Rattle.lisp_data.specs.declared.sexp.Sexp.TheVariants as form
use Rattle.rpc_messages.specs.declared.from_emacs.FromEmacs.{FromEmacs}
use Rattle.rpc_messages.specs.declared.from_emacs.ThreadName.TheVariants.{Repl}
use Rattle.rpc_messages.specs.declared.to_emacs.Returned.TheVariants as returned
use Rattle.rpc_messages.specs.declared.to_emacs.ToEmacs.{ToEmacs}
use Rattle.rpc_messages.specs.declared.to_emacs.ToEmacs.TheVariants.{Return}
use Rattle.session_model.specs.declared.event.Entry.{Entry}
use Rattle.session_model.specs.declared.event.Event.TheVariants.{Arrive, End, Lend, Burst, Drain}
use Rattle.worked_sessions.specs.Entries.{call, entry, request}

-- `(swank-repl:listener-eval "(car 1)")`
abbrev pub asked : Sexp
asked = call (codes "SWANK-REPL:LISTENER-EVAL") (form.Str (codes "(car 1)") ∷ [])

abbrev pub message : FromEmacs
message = request asked Repl (pos 1)

-- it is taken and called, its form is gone into, and the call leaves all layers
abbrev pub journal : List Entry
journal = entry (Arrive message) ∷ entry (Lend 1) ∷ entry (Burst 1 4) ∷ entry (Drain 1) ∷ entry End ∷ []

abbrev pub messages : List ToEmacs
messages = Return (pos 1) returned.Abort ∷ []
