-- What events tell: the messages to Emacs, and what the laws speak of. `t` is a thread's number, `i` the place of an arrival in the
-- journal, `n` the number of a level of the debugger, `k` the serial number of a protected form.
use Rattle.std.specs.Prelude.{ℕ, List, [], ◌∷◌}
use Rattle.rpc_messages.specs.declared.from_emacs.FromEmacs.{FromEmacs}
use Rattle.rpc_messages.specs.declared.pattern.Pattern.{Pattern}
use Rattle.rpc_messages.specs.declared.to_emacs.ToEmacs.{ToEmacs}
use Rattle.rpc_messages.specs.declared.to_emacs.Returned.{Returned}

pub data Label : Type 0 where
  -- a message came for a live thread
  Routed : (t i : ℕ) → FromEmacs → Label
  -- the thread took it
  Took : (t i : ℕ) → Pattern → Label
  -- the thread's evaluation of a request ended so
  Ended : (t i : ℕ) → Returned → Label
  -- a thread that ended never took a request
  Swept : (t i : ℕ) → Label
  -- a request came for a thread that isn't live
  Refused : (i : ℕ) → Label
  -- a message to Emacs
  Out : ToEmacs → Label
  -- a level of the debugger opened, or closed
  Opened : (t n : ℕ) → Label
  Closed : (t n : ℕ) → Label
  -- the cleanup of a protected form began
  Cleanup : (t k : ℕ) → Label
  -- the thread took an interrupt
  Broke : (t : ℕ) → Label

-- the messages to Emacs among labels
abbrev pub messages_in : List Label → List ToEmacs
messages_in [] = []
messages_in (Out m ∷ ls) = m ∷ messages_in ls
messages_in (Routed t i m ∷ ls) = messages_in ls
messages_in (Took t i p ∷ ls) = messages_in ls
messages_in (Ended t i result ∷ ls) = messages_in ls
messages_in (Swept t i ∷ ls) = messages_in ls
messages_in (Refused i ∷ ls) = messages_in ls
messages_in (Opened t n ∷ ls) = messages_in ls
messages_in (Closed t n ∷ ls) = messages_in ls
messages_in (Cleanup t k ∷ ls) = messages_in ls
messages_in (Broke t ∷ ls) = messages_in ls
