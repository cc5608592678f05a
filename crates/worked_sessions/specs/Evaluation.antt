-- A session in which the thread of the REPL evaluates a text.
use Rattle.std.specs.Prelude.{List, [], ◌∷◌, codes, pos, true}
use Rattle.lisp_data.specs.declared.sexp.Sexp.{Sexp}
use Rattle.lisp_data.specs.declared.sexp.Sexp.TheVariants as form
use Rattle.rpc_messages.specs.declared.from_emacs.FromEmacs.{FromEmacs}
use Rattle.rpc_messages.specs.declared.from_emacs.ThreadName.TheVariants.{Repl}
use Rattle.rpc_messages.specs.declared.to_emacs.Returned.TheVariants as returned
use Rattle.rpc_messages.specs.declared.to_emacs.ToEmacs.{ToEmacs}
use Rattle.rpc_messages.specs.declared.to_emacs.ToEmacs.TheVariants.{Return, WriteString}
use Rattle.session_model.specs.declared.event.Entry.{Entry}
use Rattle.session_model.specs.declared.event.Event.TheVariants.{Arrive, End, Lend, Burst, Drain}
use Rattle.worked_sessions.specs.Entries.{call, entry, request}

-- `(swank-repl:listener-eval "1")`
abbrev pub asked : Sexp
asked = call (codes "SWANK-REPL:LISTENER-EVAL") (form.Str (codes "1") ∷ [])

abbrev pub message : FromEmacs
message = request asked Repl (pos 1)

-- it is taken and called, its form is gone into, the value is written, and the reply ends the request
abbrev pub journal : List Entry
journal = entry (Arrive message) ∷ entry (Lend 1) ∷ entry (Burst 1 5) ∷ entry (Drain 2) ∷ entry End ∷ []

abbrev pub messages : List ToEmacs
messages = WriteString (codes "1\n") true ∷ Return (pos 1) (returned.Ok (form.List [])) ∷ []
