-- The forms of the messages to Emacs, after `slime-dispatch-event` of SLIME's `slime.el`. Tokens are in upper case, as they are read.
use Rattle.std.specs.Prelude.{ℕ, pos, ◌<◌, ◌^◌, Bool, true, false, List, [], ◌∷◌, map, codes, All}
use Rattle.lisp_data.specs.declared.sexp.Sexp.{Sexp}
use Rattle.lisp_data.specs.declared.sexp.Sexp.TheVariants as form
use Rattle.lisp_data.specs.Sexp.{nil}
use Rattle.rpc_messages.specs.declared.to_emacs.FrameLine.{FrameLine}
use Rattle.rpc_messages.specs.declared.to_emacs.RestartLine.{RestartLine}
use Rattle.rpc_messages.specs.declared.to_emacs.Returned.{Returned}
use Rattle.rpc_messages.specs.declared.to_emacs.Returned.TheVariants as returned
use Rattle.rpc_messages.specs.declared.to_emacs.ToEmacs.{ToEmacs}
use Rattle.rpc_messages.specs.declared.to_emacs.ToEmacs.TheVariants.{Return, InvalidRpc, ReaderError, WriteString, ReadString, ReadAborted, YesNo, NewPackage, Debug, DebugActivate, DebugReturn, DebugCondition}

abbrev pub number : ℕ → Sexp
number n = form.Int (pos n)

-- `(HEAD PART ..)`
abbrev pub message : List ℕ → List Sexp → Sexp
message head parts = form.List (form.Sym head ∷ parts)

-- `(:ok VALUE)`, or `(:abort "NIL")`
abbrev pub returned_form : Returned → Sexp
returned_form (returned.Ok value) = message (codes ":OK") (value ∷ [])
returned_form returned.Abort = message (codes ":ABORT") (form.Str (codes "NIL") ∷ [])

abbrev pub write_string_form : List ℕ → Bool → Sexp
write_string_form text true = message (codes ":WRITE-STRING") (form.Str text ∷ form.Sym (codes ":REPL-RESULT") ∷ [])
write_string_form text false = message (codes ":WRITE-STRING") (form.Str text ∷ [])

-- `(NAME TEXT)`
abbrev pub restart_form : RestartLine → Sexp
restart_form line = form.List (form.Str line.name ∷ form.Str line.text ∷ [])

-- `(N TEXT)`
abbrev pub frame_form : FrameLine → Sexp
frame_form line = form.List (number line.number ∷ form.Str line.text ∷ [])

-- `(MESSAGE TYPELINE nil)`
abbrev pub heading_form : List ℕ → List ℕ → Sexp
heading_form text type_line = form.List (form.Str text ∷ form.Str type_line ∷ nil ∷ [])

-- the form of a message
abbrev pub form_of : ToEmacs → Sexp
form_of (Return id result) = message (codes ":RETURN") (returned_form result ∷ form.Int id ∷ [])
form_of (InvalidRpc id text) = message (codes ":INVALID-RPC") (form.Int id ∷ form.Str text ∷ [])
form_of (ReaderError packet text) = message (codes ":READER-ERROR") (form.Str packet ∷ form.Str text ∷ [])
form_of (WriteString text repl_result) = write_string_form text repl_result
form_of (ReadString thread tag) = message (codes ":READ-STRING") (number thread ∷ number tag ∷ [])
form_of (ReadAborted thread tag) = message (codes ":READ-ABORTED") (number thread ∷ number tag ∷ [])
form_of (YesNo thread tag text) = message (codes ":Y-OR-N-P") (number thread ∷ number tag ∷ form.Str text ∷ [])
form_of (NewPackage name prompt) = message (codes ":NEW-PACKAGE") (form.Str name ∷ form.Str prompt ∷ [])
form_of (Debug thread level text type_line restarts frames continuations) = message (codes ":DEBUG")
    (number thread ∷ number level ∷ heading_form text type_line ∷ form.List (map restart_form restarts)
    ∷ form.List (map frame_form frames) ∷ form.List (map form.Int continuations) ∷ [])
form_of (DebugActivate thread level) = message (codes ":DEBUG-ACTIVATE") (number thread ∷ number level ∷ nil ∷ [])
form_of (DebugReturn thread level) = message (codes ":DEBUG-RETURN") (number thread ∷ number level ∷ nil ∷ [])
form_of (DebugCondition thread text) = message (codes ":DEBUG-CONDITION") (number thread ∷ form.Str text ∷ [])

-- the number of each frame is below 2^63
abbrev pub HaveSmallNumbers : List FrameLine → Type 0
HaveSmallNumbers = All (λ line. line.number < 2 ^ 63)

-- each number of 64 bits in a message is below 2^63, so that it is an integer of a form
abbrev pub HasSmallNumbers : ToEmacs → Type 0
HasSmallNumbers (ReadString thread tag) = (thread < 2 ^ 63) × (tag < 2 ^ 63)
HasSmallNumbers (ReadAborted thread tag) = (thread < 2 ^ 63) × (tag < 2 ^ 63)
HasSmallNumbers (YesNo thread tag text) = (thread < 2 ^ 63) × (tag < 2 ^ 63)
HasSmallNumbers (Debug thread level text type_line restarts frames continuations) = (thread < 2 ^ 63) × (level < 2 ^ 63) × HaveSmallNumbers frames
HasSmallNumbers (DebugActivate thread level) = (thread < 2 ^ 63) × (level < 2 ^ 63)
HasSmallNumbers (DebugReturn thread level) = (thread < 2 ^ 63) × (level < 2 ^ 63)
HasSmallNumbers (DebugCondition thread text) = thread < 2 ^ 63
HasSmallNumbers (Return id result) = Unit {0}
HasSmallNumbers (InvalidRpc id text) = Unit {0}
HasSmallNumbers (ReaderError packet text) = Unit {0}
HasSmallNumbers (WriteString text repl_result) = Unit {0}
HasSmallNumbers (NewPackage name prompt) = Unit {0}
