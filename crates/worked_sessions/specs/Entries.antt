-- The entries of worked journals.
use Rattle.std.specs.Prelude.{ℕ, ℤ, List, ◌∷◌, Some, codes}
use Rattle.lisp_data.specs.declared.sexp.Sexp.{Sexp}
use Rattle.lisp_data.specs.declared.sexp.Sexp.TheVariants as form
use Rattle.rpc_messages.specs.declared.from_emacs.FromEmacs.{FromEmacs}
use Rattle.rpc_messages.specs.declared.from_emacs.FromEmacs.TheVariants.{Rex}
use Rattle.rpc_messages.specs.declared.from_emacs.ThreadName.{ThreadName}
use Rattle.session_model.specs.declared.event.Entry.{Entry}
use Rattle.session_model.specs.declared.event.Event.{Event}

-- an entry of the pipe's one seat
abbrev pub entry : Event → Entry
entry event = record { seat = 0; event = event }

-- a call: its head, and its arguments
abbrev pub call : List ℕ → List Sexp → Sexp
call head arguments = form.List (form.Sym head ∷ arguments)

-- a request that a form be evaluated in COMMON-LISP-USER
abbrev pub request : Sexp → ThreadName → ℤ → FromEmacs
request form thread id = Rex form (Some (codes "COMMON-LISP-USER")) thread id
