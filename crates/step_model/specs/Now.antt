-- What a step reads and what it leaves: a thread with its redex in what is around it, and the parts of the session that a row names.
use Rattle.std.specs.Prelude.{ℕ, Bool, List, ◌++◌}
use Rattle.lisp_data.specs.declared.value.Value.{Value}
use Rattle.rpc_messages.specs.declared.from_emacs.FromEmacs.{FromEmacs}
use Rattle.term_model.specs.declared.focus.Focus.{Focus}
use Rattle.term_model.specs.Label.{Label}
use Rattle.term_model.specs.Term.{Context}
use Rattle.step_model.specs.Image.{ImageState}

-- the messages that were routed to a thread and that it hasn't taken, with the places of their arrival
abbrev pub Mailbox : Type 0
Mailbox = List (ℕ × FromEmacs)

pub record Now : Type 0 where
  pub thread : ℕ
  pub context : Context
  pub redex : Focus
  -- the serial of the thread's next protected form
  pub serial : ℕ
  pub mailbox : Mailbox
  pub image : ImageState
  -- the tag of the session's next question
  pub tag : ℕ
  -- what is inspected, and behind it the values kept before
  pub inspected : List Value
  -- the numbers of the live threads
  pub threads : List ℕ
  -- how many levels of the debugger the program opens
  pub most : ℕ
  -- what the step has told
  pub labels : List Label
  -- whether a request at the top ended, or an exit came to the top
  pub over : Bool
  -- whether the session was closed
  pub closed : Bool

-- this redex in this context, with nothing else changed
abbrev pub puts : Now → Context → Focus → Now
puts n c f = record n { context = c; redex = f }

-- the same thread with another context
abbrev pub around : Now → Context → Now
around n c = record n { context = c }

abbrev pub tells : Now → List Label → Now
tells n ls = record n { labels = n.labels ++ ls }
