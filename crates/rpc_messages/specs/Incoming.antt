-- The shapes of the messages that Emacs sends, after `dispatch-event` of SLIME's `swank.lisp`.
use Rattle.std.specs.Prelude.{◌≡◌, ℕ, ℤ, pos, Bool, false, if◌then◌else◌, List, [], ◌∷◌, codes, Option, Some, None, IsSome, Result, Ok, Err}
use Rattle.std.specs.Str.{str_eq_ignore_ascii_case}
use Rattle.lisp_data.specs.Parts.{form_text}
use Rattle.lisp_data.specs.declared.sexp.Sexp.{Sexp, out-Sexp}
use Rattle.lisp_data.specs.declared.sexp.Sexp.TheOpen.{Sexp-F}
use Rattle.rpc_messages.specs.declared.from_emacs.FromEmacs.{FromEmacs}
use Rattle.rpc_messages.specs.declared.from_emacs.FromEmacs.TheVariants.{Rex, Interrupt, ReturnString, Return}
use Rattle.rpc_messages.specs.declared.from_emacs.MessageFault.{MessageFault}
use Rattle.rpc_messages.specs.declared.from_emacs.MessageFault.TheVariants.{UnknownMessage, NoMemory}
use Rattle.rpc_messages.specs.declared.from_emacs.ThreadName.{ThreadName}
use Rattle.rpc_messages.specs.declared.from_emacs.ThreadName.TheVariants.{New, Repl, Id}

-- whether the form is a symbol of this name, without regard to the case of ASCII letters
abbrev pub is_symbol : List ℕ → Sexp-F Sexp → Bool
is_symbol name (Sexp-F.Sym token) = str_eq_ignore_ascii_case token name
is_symbol name _ = false

-- ID: an integer
abbrev pub integer_in : Sexp-F Sexp → Option ℤ
integer_in (Sexp-F.Int number) = Some number
integer_in _ = None

-- TAG: a number from 0 up
abbrev pub natural_in : Sexp-F Sexp → Option ℕ
natural_in (Sexp-F.Int (pos number)) = Some number
natural_in _ = None

abbrev pub id_in : Option ℕ → Option ThreadName
id_in (Some number) = Some (Id number)
id_in None = None

-- THREAD: `t`, `:repl-thread` or a number from 0 up
abbrev pub thread_in : Sexp-F Sexp → Option ThreadName
thread_in form =
    if is_symbol (codes "t") form then Some New
    else if is_symbol (codes ":repl-thread") form then Some Repl
    else id_in (natural_in form)

abbrev pub unless_new : Option ThreadName → Option ThreadName
unless_new (Some New) = None
unless_new name = name

-- THREAD of an answer: `:repl-thread` or a number from 0 up
abbrev pub standing_in : Sexp-F Sexp → Option ThreadName
standing_in form = unless_new (thread_in form)

-- PACKAGE: a string or nil
abbrev pub package_in : Sexp-F Sexp → Option (Option (List ℕ))
package_in (Sexp-F.Str text) = Some (Some text)
package_in (Sexp-F.List []) = Some None
package_in _ = None

abbrev pub rex_of : Sexp → Option (Option (List ℕ)) → Option ThreadName → Option ℤ → Option FromEmacs
rex_of form (Some package_name) (Some thread) (Some id) = Some (Rex form package_name thread id)
rex_of _ _ _ _ = None

-- after `:emacs-rex`: FORM PACKAGE THREAD ID
abbrev pub rex_in : List Sexp → Option FromEmacs
rex_in (form ∷ package_form ∷ thread ∷ id ∷ _) = rex_of form (package_in (out-Sexp package_form)) (thread_in (out-Sexp thread)) (integer_in (out-Sexp id))
rex_in _ = None

abbrev pub interrupt_of : Option ThreadName → Option FromEmacs
interrupt_of (Some thread) = Some (Interrupt thread)
interrupt_of None = None

-- after `:emacs-interrupt`: THREAD
abbrev pub interrupt_in : List Sexp → Option FromEmacs
interrupt_in (thread ∷ _) = interrupt_of (thread_in (out-Sexp thread))
interrupt_in _ = None

abbrev pub return_string_of : Option ThreadName → Option ℕ → Option (List ℕ) → Option FromEmacs
return_string_of (Some thread) (Some tag) (Some text) = Some (ReturnString thread tag text)
return_string_of _ _ _ = None

-- after `:emacs-return-string`: THREAD TAG STRING
abbrev pub return_string_in : List Sexp → Option FromEmacs
return_string_in (thread ∷ tag ∷ text ∷ _) = return_string_of (standing_in (out-Sexp thread)) (natural_in (out-Sexp tag)) (form_text text)
return_string_in _ = None

abbrev pub return_of : Option ThreadName → Option ℕ → Sexp → Option FromEmacs
return_of (Some thread) (Some tag) value = Some (Return thread tag value)
return_of _ _ _ = None

-- after `:emacs-return`: THREAD TAG VALUE
abbrev pub return_in : List Sexp → Option FromEmacs
return_in (thread ∷ tag ∷ value ∷ _) = return_of (standing_in (out-Sexp thread)) (natural_in (out-Sexp tag)) value
return_in _ = None

-- the message of a list with this head and these further elements
abbrev pub message_at : Sexp → List Sexp → Option FromEmacs
message_at head parts =
    if is_symbol (codes ":emacs-rex") (out-Sexp head) then rex_in parts
    else if is_symbol (codes ":emacs-interrupt") (out-Sexp head) then interrupt_in parts
    else if is_symbol (codes ":emacs-return-string") (out-Sexp head) then return_string_in parts
    else if is_symbol (codes ":emacs-return") (out-Sexp head) then return_in parts
    else None

abbrev pub message_in_open : Sexp-F Sexp → Option FromEmacs
message_in_open (Sexp-F.List (head ∷ parts)) = message_at head parts
message_in_open _ = None

-- the message that a form is, None where it has none of the four shapes
abbrev pub message_in : Sexp → Option FromEmacs
message_in form = message_in_open (out-Sexp form)

-- what was found is the answer, and nothing was found exactly where the message is unknown
abbrev pub Finds : {X : Type 0} → Result X MessageFault → Option X → Type 0
Finds (Ok x) found = found ≡ Some x
Finds (Err UnknownMessage) found = found ≡ None
Finds (Err NoMemory) found = IsSome found
