-- The classes of steps: each step is a list of moves, and a move takes marks off the innermost place or puts one there, and tells its
-- own labels.
use Rattle.std.specs.Prelude.{◌≡◌, ℕ, ℤ, ◌+◌, Bool, true, false, nat_lt, List, [], ◌∷◌, ◌++◌, Option, Some, None}
use Rattle.lisp_data.specs.declared.sexp.Sexp.{Sexp}
use Rattle.mailboxes.specs.Mail.{first_accepted, without_accepted}
use Rattle.rpc_messages.specs.declared.from_emacs.FromEmacs.{FromEmacs}
use Rattle.rpc_messages.specs.declared.from_emacs.FromEmacs.TheVariants as mail
use Rattle.rpc_messages.specs.declared.from_emacs.ThreadName.{ThreadName}
use Rattle.rpc_messages.specs.declared.pattern.Pattern.{Pattern}
use Rattle.rpc_messages.specs.declared.pattern.Pattern.TheVariants as pattern
use Rattle.rpc_messages.specs.declared.to_emacs.Returned.TheVariants as returned
use Rattle.rpc_messages.specs.declared.to_emacs.ToEmacs.{ToEmacs}
use Rattle.rpc_messages.specs.declared.to_emacs.ToEmacs.TheVariants as message
use Rattle.term_model.specs.declared.question.Ask.{Ask}
use Rattle.term_model.specs.Breaks.{max_levels}
use Rattle.term_model.specs.Exit.{question_dropped}
use Rattle.term_model.specs.Label.{Label, Took, Ended, Swept, Out, Opened, Closed, Cleanup}
use Rattle.step_model.specs.Marks.{Mark, Protected, Cleaning, Serving, Level, Asking, State, depth, state_of}
use Rattle.step_model.specs.Now.{Mailbox, Now}
use Rattle.step_model.specs.Perform.{asking, written}
use Rattle.step_model.specs.Rules.{Writing}

pub data Move : Type 0 where
  -- a form is protected, its cleanup begins, and the cleanup is over or left
  Protects : (k : ℕ) → Move
  Turns : (k : ℕ) → Move
  Cleaned : (k : ℕ) → Move
  -- a question is asked, has its answer, or is left
  Asks : Ask → (tag : ℕ) → (text : List ℕ) → Move
  Answered : Ask → (tag : ℕ) → Move
  Unasked : Ask → (tag : ℕ) → Move
  -- a request is taken, ends with a reply, or is left
  Begins : (i : ℕ) (id : ℤ) → Pattern → Sexp → Option (List ℕ) → ThreadName → Move
  Ends : (i : ℕ) (id : ℤ) → Sexp → Move
  Aborts : (i : ℕ) (id : ℤ) → Move
  -- another message is taken
  Hears : (i : ℕ) → Pattern → FromEmacs → Move
  -- a level opens, closes, or is announced again
  Opens : (n : ℕ) → ToEmacs → Move
  Closes : (n : ℕ) → Move
  Announces : (n : ℕ) → ToEmacs → Move
  -- something is written to the user
  Writes : Writing → Move
  -- a thread that ends never took a request
  Sweeps : (i : ℕ) (id : ℤ) → Sexp → Option (List ℕ) → ThreadName → Move

-- the marks that a move takes off, and those that it puts in their place
abbrev pub removes : Move → List Mark
removes (Turns k) = Protected k ∷ []
removes (Cleaned k) = Cleaning k ∷ []
removes (Answered kind tag) = Asking kind tag ∷ []
removes (Unasked kind tag) = Asking kind tag ∷ []
removes (Ends i id reply) = Serving i id ∷ []
removes (Aborts i id) = Serving i id ∷ []
removes (Closes n) = Level n ∷ []
removes (Announces n m) = Level n ∷ []
removes _ = []

abbrev pub adds : Move → List Mark
adds (Protects k) = Protected k ∷ []
adds (Turns k) = Cleaning k ∷ []
adds (Asks kind tag text) = Asking kind tag ∷ []
adds (Begins i id p form «package» thread) = Serving i id ∷ []
adds (Opens n m) = Level n ∷ []
adds (Announces n m) = Level n ∷ []
adds _ = []

-- what a move of thread t tells
abbrev pub told : ℕ → Move → List Label
told t (Turns k) = Cleanup t k ∷ []
told t (Asks kind tag text) = Out (asking kind t tag text) ∷ []
told t (Unasked kind tag) = question_dropped t kind tag
told t (Begins i id p form «package» thread) = Took t i p ∷ []
told t (Ends i id reply) = Ended t i (returned.Ok reply) ∷ Out (message.Return id (returned.Ok reply)) ∷ []
told t (Aborts i id) = Ended t i returned.Abort ∷ Out (message.Return id returned.Abort) ∷ []
told t (Hears i p m) = Took t i p ∷ []
told t (Opens n m) = Opened t n ∷ Out m ∷ Out (message.DebugActivate t n) ∷ []
told t (Closes n) = Closed t n ∷ Out (message.DebugReturn t n) ∷ []
told t (Announces n m) = Out m ∷ Out (message.DebugActivate t n) ∷ []
told t (Writes w) = written w ∷ []
told t (Sweeps i id form «package» thread) = Swept t i ∷ Out (message.Return id returned.Abort) ∷ []
told t _ = []

abbrev pub serial_after : Move → ℕ → ℕ
serial_after (Protects k) s = s + 1
serial_after _ s = s

abbrev pub mail_after : Move → Mailbox → Mailbox
mail_after (Begins i id p form «package» thread) mb = without_accepted p mb
mail_after (Hears i p m) mb = without_accepted p mb
mail_after (Sweeps i id form «package» thread) mb = without_accepted pattern.Rex mb
mail_after _ mb = mb

-- the thread and the level that a message announces
abbrev pub announced_level : ToEmacs → Option (ℕ × ℕ)
announced_level (message.Debug t n text kind restarts frames continuations) = Some (t, n)
announced_level _ = None

abbrev pub is_request : FromEmacs → Bool
is_request (mail.Rex form «package» thread id) = true
is_request _ = false

-- where a move of thread t may be made
abbrev pub Fits : ℕ → Move → List Mark → ℕ → Mailbox → Type 0
Fits t (Protects k) ms s mb = k ≡ s
Fits t (Begins i id p form «package» thread) ms s mb = first_accepted p mb ≡ Some (i, mail.Rex form «package» thread id)
Fits t (Hears i p m) ms s mb = (first_accepted p mb ≡ Some (i, m)) × (is_request m ≡ false)
Fits t (Sweeps i id form «package» thread) ms s mb = first_accepted pattern.Rex mb ≡ Some (i, mail.Rex form «package» thread id)
Fits t (Opens n m) ms s mb = (n ≡ depth ms + 1) × (nat_lt (depth ms) max_levels ≡ true) × (announced_level m ≡ Some (t, n))
Fits t (Announces n m) ms s mb = announced_level m ≡ Some (t, n)
Fits t _ ms s mb = Unit {0}

abbrev pub before : Move → List Mark → ℕ → Mailbox → State
before m ms s mb = record { marks = removes m ++ ms; serial = s; mailbox = mb }

abbrev pub after : Move → List Mark → ℕ → Mailbox → State
after m ms s mb = record { marks = adds m ++ ms; serial = serial_after m s; mailbox = mail_after m mb }

-- what a list of moves did with protected forms: nothing, made one, or began the cleanup of one
pub data Phase : Type 0 where
  Calm : Phase
  Made : Phase
  Turned : (k : ℕ) → Phase

-- a step makes or turns one at most
abbrev pub MayCome : Move → Phase → Type 0
MayCome (Protects k) ph = ph ≡ Calm
MayCome (Turns k) ph = ph ≡ Calm
MayCome _ ph = Unit {0}

abbrev pub phase_after : Move → Phase → Phase
phase_after (Protects k) ph = Made
phase_after (Turns k) ph = Turned k
phase_after _ ph = ph

-- thread t comes by moves from one state to another, telling these labels
pub data Path (t : ℕ) (from : State) : List Label → State → Phase → Type 0 where
  stay : Path t from [] from Calm
  go : {ls : List Label} {ph : Phase} (m : Move) (ms : List Mark) (s : ℕ) (mb : Mailbox) → Path t from ls (before m ms s mb) ph → Fits t m ms s mb → MayCome m ph → Path t from (ls ++ told t m) (after m ms s mb) (phase_after m ph)

-- a thread has come from a state to where it is, by some moves
abbrev pub At : State → Now → Phase → Type 0
At from n ph = Path n.thread from n.labels (state_of n) ph

abbrev pub Comes : State → Now → Type 0
Comes from n = (ph : Phase) × At from n ph
