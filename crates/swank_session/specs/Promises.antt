-- What a session promises of the octets that it took and wrote, and of its journal.
use Rattle.std.specs.Prelude.{◌≡◌, ◌≢◌, ℕ, ◌+◌, ◌≤◌, Bool, true, false, List, [], ◌∷◌, ◌++◌, length, IsTrue, ◌⊎◌, Option, Some}
use mathlib.Core.List.{IsPrefix}
use Rattle.rpc_messages.specs.declared.from_emacs.FromEmacs.{FromEmacs}
use Rattle.step_model.specs.Image.{ImageState}
use Rattle.session_model.specs.declared.event.Entry.{Entry}
use Rattle.session_model.specs.declared.event.Event.TheVariants.{Drain}
use Rattle.session_model.specs.Journal.{arrivals, outputs, run}
use Rattle.session_model.specs.Legal.{is_quiet}
use Rattle.session_model.specs.Pipe.{by_pipe}
use Rattle.session_model.specs.Wire.{frames}
use Rattle.session_model.specs.World.{World}
use Rattle.server_rules.specs.Rules.{rules}
use Rattle.swank_session.specs.Stream.{behind, messages}
use Rattle.swank_session.specs.declared.outcome.Status.{Status}
use Rattle.swank_session.specs.declared.outcome.Status.TheVariants.{Ok, NoMemory, ReadFault, WriteFault, BadHeader, Truncated, InputLimit}

-- the source tells what is left, and these octets were taken from its front
abbrev pub Took : Option (List ℕ) → Option (List ℕ) → List ℕ → Type 0
Took (Some old) (Some new) taken = old ≡ taken ++ new
Took _ _ taken = ⊥

-- the sink tells what is written, and these octets were added at its end
abbrev pub Wrote : Option (List ℕ) → Option (List ℕ) → List ℕ → Type 0
Wrote (Some old) (Some new) added = new ≡ old ++ added
Wrote _ _ added = ⊥

-- the ends that the input brings
abbrev pub IsAtInput : Status → Type 0
IsAtInput Ok = Unit {0}
IsAtInput ReadFault = Unit {0}
IsAtInput BadHeader = Unit {0}
IsAtInput Truncated = Unit {0}
IsAtInput InputLimit = Unit {0}
IsAtInput _ = ⊥

-- how many octets are read at most behind a message that was not served
abbrev pub max_ahead : ℕ
max_ahead = 4095

-- what arrived are the first messages of the octets taken
pub record IsRead (status : Status) (ended : Bool) (octets : List ℕ) (image : ImageState) (j : List Entry) : Type 0 where
  -- the others
  pub lacked : List FromEmacs
  pub is : arrivals j ++ lacked ≡ messages octets
  pub all : IsAtInput status → (run rules image j).closed ≡ false → lacked ≡ []
  -- a journal that says that the input ended has all, and the source is at its end
  pub at_end : (run rules image j).ended ≡ true → (lacked ≡ []) × (ended ≡ true)
  -- nothing is read far ahead of what is served
  pub near : status ≢ NoMemory → (lacked ≡ []) ⊎ (length (behind (length (arrivals j) + 1) octets) ≤ max_ahead)

-- the last entry is a drain, what was drained before it was written whole, and what it handed out was not
pub record IsCut (image : ImageState) (j : List Entry) (octets : List ℕ) : Type 0 where
  pub before : List Entry
  pub count : ℕ
  pub last : j ≡ before ++ by_pipe (Drain count) ∷ []
  pub whole : IsPrefix (frames (run rules image before).drained) octets
  pub begins : IsPrefix octets (frames (outputs rules image j))

-- these octets are the packets of the outputs of the journal's run, or a beginning of them
abbrev pub IsWritten : Status → ImageState → List Entry → List ℕ → Type 0
IsWritten WriteFault image j octets = IsCut image j octets
IsWritten NoMemory image j octets = IsPrefix octets (frames (outputs rules image j))
IsWritten _ image j octets = octets ≡ frames (outputs rules image j)

-- the source is at its end, the journal says so, and no thread is ready or lent
pub record IsOver (ended : Bool) (w : World) : Type 0 where
  pub read : ended ≡ true
  pub told : w.ended ≡ true
  pub quiet : IsTrue (is_quiet w)

-- at its input's end all is served, unless a request has closed the session
abbrev pub IsEnded : Status → Bool → World → Type 0
IsEnded Ok ended w = IsOver ended w ⊎ (w.closed ≡ true)
IsEnded Truncated ended w = IsOver ended w
IsEnded _ ended w = Unit {0}

-- the journal is this one, or a beginning of it
abbrev pub IsScheduled : Status → List Entry → List Entry → Type 0
IsScheduled WriteFault j whole = IsPrefix j whole
IsScheduled NoMemory j whole = IsPrefix j whole
IsScheduled _ j whole = j ≡ whole
