-- A session in which a new worker is asked what the server is.
use Rattle.std.specs.Prelude.{List, [], ◌∷◌, codes, pos}
use Rattle.lisp_data.specs.declared.sexp.Sexp.{Sexp}
use Rattle.rpc_messages.specs.declared.from_emacs.FromEmacs.{FromEmacs}
use Rattle.rpc_messages.specs.declared.from_emacs.ThreadName.TheVariants.{New}
use Rattle.rpc_messages.specs.declared.to_emacs.Returned.TheVariants as returned
use Rattle.rpc_messages.specs.declared.to_emacs.ToEmacs.{ToEmacs}
use Rattle.rpc_messages.specs.declared.to_emacs.ToEmacs.TheVariants.{Return}
use Rattle.server_info.specs.Info.{info}
use Rattle.session_model.specs.declared.event.Entry.{Entry}
use Rattle.session_model.specs.declared.event.Event.TheVariants.{Arrive, End, Lend, Burst, Drain}
use Rattle.worked_sessions.specs.Entries.{call, entry, request}

-- `(swank:connection-info)`
abbrev pub asked : Sexp
asked = call (codes "SWANK:CONNECTION-INFO") []

abbrev pub message : FromEmacs
message = request asked New (pos 1)

-- it is taken, called, and its reply passes the binding of the package and then ends the request
abbrev pub journal : List Entry
journal = entry (Arrive message) ∷ entry (Lend 2) ∷ entry (Burst 2 4) ∷ entry (Drain 1) ∷ entry End ∷ []

abbrev pub messages : List ToEmacs
messages = Return (pos 1) (returned.Ok (info (codes "COMMON-LISP-USER") (codes "CL-USER"))) ∷ []
