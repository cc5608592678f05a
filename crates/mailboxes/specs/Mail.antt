-- The mail of a thread, as a list of messages with the places of their arrival. A thread passes over what it does not wait for, as
-- `wait-for-event` of SLIME's `swank.lisp` does.
use Rattle.std.specs.Prelude.{ℕ, ◌<◌, ◌≤◌, IsTrue, if◌then◌else◌, List, [], ◌∷◌, Option, find}
use Rattle.rpc_messages.specs.declared.from_emacs.FromEmacs.{FromEmacs}
use Rattle.rpc_messages.specs.declared.from_emacs.FromEmacs.TheVariants.{Rex, Interrupt, ReturnString, Return, Unreadable}
use Rattle.rpc_messages.specs.declared.pattern.Pattern.{Pattern}
use Rattle.rpc_messages.specs.Waiting.{accepted}

-- what a thread can wait for: a request, or the answer to a question
abbrev pub IsMail : FromEmacs → Type 0
IsMail (Rex _ _ _ _) = Unit {0}
IsMail (ReturnString _ _ _) = Unit {0}
IsMail (Return _ _ _) = Unit {0}
IsMail (Interrupt _) = ⊥
IsMail (Unreadable _ _) = ⊥

-- the first message that the pattern accepts, with its place
abbrev pub first_accepted : Pattern → List (ℕ × FromEmacs) → Option (ℕ × FromEmacs)
first_accepted p mail = find (λ entry. accepted p entry.1) mail

-- the mail without that one, in the same order
abbrev pub without_accepted : Pattern → List (ℕ × FromEmacs) → List (ℕ × FromEmacs)
without_accepted p [] = []
without_accepted p (entry ∷ mail) = if accepted p entry.1 then mail else entry ∷ without_accepted p mail

-- each message came before this place
abbrev pub AllBefore : ℕ → List (ℕ × FromEmacs) → Type 0
AllBefore at [] = Unit {0}
AllBefore at (entry ∷ mail) = (entry.0 < at) × AllBefore at mail

-- each message came after this place
abbrev pub AllAfter : ℕ → List (ℕ × FromEmacs) → Type 0
AllAfter at [] = Unit {0}
AllAfter at (entry ∷ mail) = (at < entry.0) × AllAfter at mail

-- the messages stand in order of arrival
abbrev pub AreInOrder : List (ℕ × FromEmacs) → Type 0
AreInOrder [] = Unit {0}
AreInOrder (entry ∷ mail) = AllAfter entry.0 mail × AreInOrder mail

-- no message that the pattern accepts came before this place
abbrev pub NoneBefore : Pattern → ℕ → List (ℕ × FromEmacs) → Type 0
NoneBefore p at [] = Unit {0}
NoneBefore p at (entry ∷ mail) = (IsTrue (accepted p entry.1) → at ≤ entry.0) × NoneBefore p at mail
