-- The calls of `pump` on one stream, in order.
use Rattle.std.specs.Prelude.{◌≡◌, ℕ, List, [], ◌∷◌, ◌++◌}
use Rattle.rpc_messages.specs.declared.from_emacs.FromEmacs.{FromEmacs}
use Rattle.inlet.specs.Messages.{Takes}

-- a call read some octets, and gave a message or none
pub data Call : Type 0 where
  gave : List ℕ → FromEmacs → Call
  gave_none : List ℕ → Call

-- each call does what `pump` ensures of one that had memory, from the octets kept at first to those kept at last
abbrev pub Runs : List ℕ → List Call → List ℕ → Type 0
Runs kept [] last = last ≡ kept
Runs kept (gave octets message ∷ calls) last = (rest : List ℕ) × Takes (kept ++ octets) rest message × Runs rest calls last
Runs kept (gave_none octets ∷ calls) last = Runs (kept ++ octets) calls last

-- all octets read, joined
abbrev pub all_read : List Call → List ℕ
all_read [] = []
all_read (gave octets message ∷ calls) = octets ++ all_read calls
all_read (gave_none octets ∷ calls) = octets ++ all_read calls

-- all messages given, in order
abbrev pub all_given : List Call → List FromEmacs
all_given [] = []
all_given (gave octets message ∷ calls) = message ∷ all_given calls
all_given (gave_none octets ∷ calls) = all_given calls
