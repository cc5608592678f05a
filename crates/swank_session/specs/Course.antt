-- The course of a session over a pipe: its journal so far, what the schedule still adds, and what is written.
use Rattle.std.specs.Prelude.{◌≡◌, ◌≢◌, ℕ, ◌+◌, ◌-◌, ◌^◌, ◌<◌, ◌≤◌, nat_le, min, Bool, true, false, ◌&&◌, not, List, [], ◌∷◌, ◌++◌, length, ◌⊎◌, Option, None, Result, Ok, Err, IfOk, IfErr, OnOk}
use mathlib.Core.List.{IsPrefix}
use Rattle.inlet.specs.Calls.{Call, Runs, all_given, all_read}
use Rattle.inlet.specs.Pump.{NothingLeft, input_limit}
use Rattle.outlet.specs.declared.texts.WriteCause.{WriteCause}
use Rattle.outlet.specs.declared.texts.WriteCause.TheVariants as cause
use Rattle.outside_traits.specs.Told.{BothTold}
use Rattle.packet_framing.specs.Packets.{packets, IsBad}
use Rattle.rpc_messages.specs.declared.from_emacs.FromEmacs.{FromEmacs}
use Rattle.rpc_messages.specs.declared.to_emacs.ToEmacs.{ToEmacs}
use Rattle.session_model.specs.declared.event.Entry.{Entry}
use Rattle.session_model.specs.Journal.{arrivals, outputs, steps_made}
use Rattle.session_model.specs.Legal.{is_quiet}
use Rattle.session_model.specs.Pipe.{Cursor, pipe_journal, schedule}
use Rattle.session_model.specs.Wire.{frames}
use Rattle.session_model.specs.World.{World}
use Rattle.session_model.proofs.Loans.{NoneLent}
use Rattle.server_laws.specs.Small.{AreSmall, HasShortNames}
use Rattle.server_rules.specs.Rules.{rules}
use Rattle.swank_core.specs.Session.{Session, world}
use Rattle.swank_core.specs.declared.fault.CoreFault.{CoreFault}
use Rattle.swank_core.specs.declared.fault.CoreFault.TheVariants as fault
use Rattle.swank_session.specs.Promises.{IsCut, max_ahead}
use Rattle.swank_session.specs.Stream.{behind, messages}
use Rattle.swank_session.specs.declared.ends.Halt.{Halt}
use Rattle.swank_session.specs.declared.ends.Halt.TheVariants as halt
use Rattle.swank_session.specs.declared.ends.InputEnd.{InputEnd}
use Rattle.swank_session.specs.declared.ends.InputEnd.TheVariants as input
use Rattle.swank_session.specs.declared.outcome.Status.{Status}
use Rattle.swank_session.specs.declared.outcome.Status.TheVariants as status

-- ---- the schedule

-- the steps that are left
abbrev pub steps_left : Session → ℕ
steps_left s = s.limits.steps - steps_made s.journal

-- the journal so far, and behind it what the schedule adds from here on
unfoldable pub whole : Session → Cursor → List Entry
whole s c = s.journal ++ schedule rules (s.limits.journal - length s.journal) (world s) (record c { steps = steps_left s })

-- these messages are to come, and nobody is lent
abbrev pub between : List FromEmacs → Bool → ℕ → Cursor
between messages ends reached = record { messages = messages; ends = ends; reached = reached; lent = None; steps = 0 }

-- the names of its packages were short and what arrived was small, so that each message it writes fits a packet
pub record IsFramed (s : Session) : Type 0 where
  pub names : HasShortNames s.opened
  pub small : AreSmall (arrivals s.journal)

-- a session that goes on
pub record IsLive (s : Session) : Type 0 where
  pub framed : IsFramed s
  pub whole : s.failed ≡ false
  pub running : s.halted ≡ false
  pub within : steps_made s.journal ≤ s.limits.steps

-- and in which nobody is lent
pub record IsFree (s : Session) : Type 0 where
  pub live : IsLive s
  pub free : NoneLent None (world s).threads

-- and nothing waits to be written
pub record IsPaused (s : Session) : Type 0 where
  pub free : IsFree s
  pub drained : (world s).undrained ≡ []

-- and no thread is ready
pub record IsAtRest (s : Session) : Type 0 where
  pub paused : IsPaused s
  pub open_ : (world s).closed ≡ false
  pub quiet : is_quiet (world s) ≡ true

-- the same session later, to which neither a message nor the end of its input came
pub record Later (old new : Session) : Type 0 where
  pub opened : new.opened ≡ old.opened
  pub limits : new.limits ≡ old.limits
  pub halted : new.halted ≡ old.halted
  pub longer : length old.journal ≤ length new.journal
  pub arrived : arrivals new.journal ≡ arrivals old.journal
  pub ended : (world new).ended ≡ (world old).ended

-- its journal has fewer places left
abbrev pub IsNearer : Session → Session → Type 0
IsNearer old new = new.limits.journal - length new.journal < old.limits.journal - length old.journal

-- the session to which this message came, or could not come
pub record Arrives (old new : Session) (m : FromEmacs) (result : Result (Unit {0}) Halt) : Type 0 where
  pub opened : new.opened ≡ old.opened
  pub limits : new.limits ≡ old.limits
  pub halted : new.halted ≡ old.halted
  pub ended : (world new).ended ≡ (world old).ended
  pub arrived : (arrivals new.journal ≡ arrivals old.journal ++ m ∷ []) ⊎ (arrivals new.journal ≡ arrivals old.journal)
  pub whole : OnOk result ((arrivals new.journal ≡ arrivals old.journal ++ m ∷ []) × IsNearer old new)

-- the session to which the end of its input came, or could not come
pub record IsOverAfter (old new : Session) (result : Result (Unit {0}) Halt) : Type 0 where
  pub opened : new.opened ≡ old.opened
  pub limits : new.limits ≡ old.limits
  pub halted : new.halted ≡ old.halted
  pub arrived : arrivals new.journal ≡ arrivals old.journal
  pub ended : OnOk result ((world new).ended ≡ true)

-- how a part of the schedule ends: it goes on from another cursor, it stops for good, or it is cut off
abbrev pub Reaches : {A : Type 0} → Session → Session → Result A Halt → (A → Cursor) → Cursor → Type 0
Reaches old new (Ok a) after before = whole new (after a) ≡ whole old before
Reaches old new (Err halt.Stuck) after before = new.journal ≡ whole old before
Reaches old new (Err halt.WriteFault) after before = IsPrefix new.journal (whole old before)
Reaches old new (Err halt.NoMemory) after before = IsPrefix new.journal (whole old before)

-- why no event follows although something could still come, or that a request closed the session
pub data IsStuck (s : Session) : Type 0 where
  closed : (world s).closed ≡ true → IsStuck s
  full : s.limits.journal ≤ length s.journal + 1 → ((world s).ended && is_quiet (world s)) ≡ false → IsStuck s
  spent : steps_made s.journal ≡ s.limits.steps → is_quiet (world s) ≡ false → IsStuck s

-- what holds of a session that was stopped so
abbrev pub Halts : Session → Halt → Type 0
Halts s halt.Stuck = (s.failed ≡ false) × ((world s).undrained ≡ []) × IsStuck s
Halts s halt.WriteFault = s.failed ≡ false
Halts s halt.NoMemory = Unit {0}

-- what a refusal of the core means for the schedule
abbrev pub halt_of : CoreFault → Halt
halt_of fault.Failed = halt.NoMemory
halt_of fault.Closed = halt.Stuck
halt_of fault.Full = halt.Stuck
halt_of fault.NoMemory = halt.NoMemory

-- what a write that was cut short means for it
abbrev pub halt_for : WriteCause → Halt
halt_for cause.WriteFault = halt.WriteFault
halt_for cause.NoMemory = halt.NoMemory

-- ---- what was read

-- calls of `pump` gave these messages, and these octets are kept
pub record Fed (left0 left1 : Option (List ℕ)) (kept : List ℕ) (taken : ℕ) (given : List FromEmacs) : Type 0 where
  pub calls : List Call
  pub took : BothTold left0 left1 (λ old new. old ≡ all_read calls ++ new)
  pub count : taken ≡ length (all_read calls)
  pub runs : Runs [] calls kept
  pub is : all_given calls ≡ given

-- ---- what is written

-- octets of this kind were written since the sink had told this
pub record Sent (first now : Option (List ℕ)) (sent : ℕ) (P : List ℕ → Type 0) : Type 0 where
  pub added : List ℕ
  pub told : BothTold first now (λ old new. new ≡ old ++ added)
  pub count : sent ≡ min (length added) (2 ^ 64 - 1)
  pub is : P added

-- a batch of messages was written, or a part of it where writing was stopped
pub record Writes (old now : Option (List ℕ)) (sent0 sent1 : ℕ) (batch : List ToEmacs) (result : Result (Unit {0}) Halt) : Type 0 where
  pub more : List ℕ
  pub told : BothTold old now (λ o n. n ≡ o ++ more)
  pub count : (before : ℕ) → sent0 ≡ min before (2 ^ 64 - 1) → sent1 ≡ min (before + length more) (2 ^ 64 - 1)
  pub begins : IsPrefix more (frames batch)
  pub all : OnOk result (more ≡ frames batch)
  pub no_stop : result ≢ Err halt.Stuck

-- all that was drained is written
abbrev pub Paid : Option (List ℕ) → Option (List ℕ) → Session → ℕ → Type 0
Paid first now s sent = Sent first now sent (λ added. added ≡ frames (world s).drained)

-- all that was drained is written, or a part of it
abbrev pub Pays : {A : Type 0} → Option (List ℕ) → Option (List ℕ) → Session → ℕ → Result A Halt → Type 0
Pays first now s sent (Ok _) = Paid first now s sent
Pays first now s sent (Err halt.Stuck) = Paid first now s sent
Pays first now s sent (Err halt.WriteFault) = Sent first now sent (IsCut s.opened s.journal)
Pays first now s sent (Err halt.NoMemory) = Sent first now sent (λ added. IsPrefix added (frames (outputs rules s.opened s.journal)))

-- what a part of the schedule writes, and what holds where it stops
pub record Spends {A : Type 0} (old new : Session) (written0 written1 : Option (List ℕ)) (sent0 sent1 : ℕ) (result : Result A Halt) : Type 0 where
  pub pays : (first : Option (List ℕ)) → Paid first written0 old sent0 → Pays first written1 new sent1 result
  pub halts : IfErr result (Halts new)

-- all that was read arrived and is served
pub record Serves (left0 left1 : Option (List ℕ)) (kept : List ℕ) (taken : ℕ) (ended : Bool) (old s : Session) : Type 0 where
  pub rest : IsAtRest s
  pub opened : s.opened ≡ old.opened
  pub limits : s.limits ≡ old.limits
  pub more : (world s).ended ≡ false
  pub fed : Fed left0 left1 kept taken (arrivals s.journal)
  pub few : length kept ≤ max_ahead
  -- once octets were read, the newest read didn't meet the end
  pub unended : ((kept ≡ []) × (taken ≡ 0)) ⊎ (ended ≡ false)
  pub same : (further : List FromEmacs) (ends : Bool) → whole s (between further ends 0) ≡ pipe_journal rules s.opened (arrivals s.journal ++ further) ends s.limits

-- ---- the whole run

-- the journal is the schedule's, or its beginning where it was cut off
abbrev pub Ends : Result InputEnd Halt → List Entry → List Entry → Type 0
Ends (Ok _) j all = j ≡ all
Ends (Err halt.Stuck) j all = j ≡ all
Ends (Err halt.WriteFault) j all = IsPrefix j all
Ends (Err halt.NoMemory) j all = IsPrefix j all

-- what the input ended with, by what stands behind the last whole packet of the octets taken
abbrev pub BringsRest : InputEnd → Bool → (taken rest : List ℕ) → Type 0
BringsRest input.Whole ended taken rest = (ended ≡ true) × (rest ≡ [])
BringsRest input.BadHeader ended taken rest = (ended ≡ false) × IsBad rest
BringsRest input.Truncated ended taken rest = (ended ≡ true) × (rest ≢ []) × (¬ IsBad rest)
BringsRest input.ReadFault ended taken rest = (ended ≡ false) × (¬ IsBad rest) × (length taken < input_limit)
BringsRest input.InputLimit ended taken rest = (ended ≡ false) × (¬ IsBad rest) × (length taken ≡ input_limit)

-- whether the journal says so
abbrev pub is_told : InputEnd → Bool
is_told input.Whole = true
is_told input.Truncated = true
is_told _ = false

-- what the input ended with, of the octets taken
pub record Brings (end : InputEnd) (left : Option (List ℕ)) (ended : Bool) (octets : List ℕ) (w : World) : Type 0 where
  pub rest : BringsRest end ended octets (packets octets).rest
  pub told : w.ended ≡ is_told end
  -- at its end a source that tells what is left tells that nothing is
  pub empty : is_told end ≡ true → NothingLeft left

-- but for the place of a drain the journal is full, and the session isn't over
abbrev pub is_out_of_room : Session → Bool
is_out_of_room s = nat_le s.limits.journal (length s.journal + 1) && not ((world s).ended && is_quiet (world s))

-- the status, by whether the session was closed and whether it is out of room
abbrev pub status_if : (closed full : Bool) → Status → Status
status_if true _ other = status.Ok
status_if false true other = status.JournalFull
status_if false false other = other

abbrev pub status_of_end : InputEnd → Status
status_of_end input.Whole = status.Ok
status_of_end input.BadHeader = status.BadHeader
status_of_end input.Truncated = status.Truncated
status_of_end input.ReadFault = status.ReadFault
status_of_end input.InputLimit = status.InputLimit

-- the status that a run ends with
abbrev pub status_for : Session → Result InputEnd Halt → Status
status_for s (Ok end) = status_if (world s).closed (is_out_of_room s) (status_of_end end)
status_for s (Err halt.Stuck) = status_if (world s).closed (is_out_of_room s) status.Budget
status_for s (Err halt.WriteFault) = status.WriteFault
status_for s (Err halt.NoMemory) = status.NoMemory

-- what holds of the session when a run ends so
abbrev pub Finishes : Session → Result InputEnd Halt → Type 0
Finishes s (Ok _) = IsAtRest s
Finishes s (Err halt) = Halts s halt

-- what a run took, and what its journal has of it
pub record Ran (left0 left1 : Option (List ℕ)) (taken : ℕ) (ended : Bool) (s : Session) (result : Result InputEnd Halt) : Type 0 where
  pub octets : List ℕ
  pub took : BothTold left0 left1 (λ old new. old ≡ octets ++ new)
  pub count : taken ≡ length octets
  pub journal : Ends result s.journal (pipe_journal rules s.opened (messages octets) ended s.limits)
  pub lacked : List FromEmacs
  pub is : arrivals s.journal ++ lacked ≡ messages octets
  pub all : IfOk result (λ _. lacked ≡ [])
  pub at_end : (world s).ended ≡ true → (lacked ≡ []) × (ended ≡ true)
  pub near : result ≢ Err halt.NoMemory → (lacked ≡ []) ⊎ (length (behind (length (arrivals s.journal) + 1) octets) ≤ max_ahead)
  pub brings : IfOk result (λ end. Brings end left1 ended octets (world s))

-- a run from its beginning to its end
pub record Completes (left0 left1 : Option (List ℕ)) (ended : Bool) (written0 written1 : Option (List ℕ)) (taken sent0 sent1 : ℕ) (old new : Session) (result : Result InputEnd Halt) : Type 0 where
  pub ran : Ran left0 left1 taken ended new result
  pub opened : new.opened ≡ old.opened
  pub limits : new.limits ≡ old.limits
  pub running : new.halted ≡ false
  pub finishes : Finishes new result
  pub pays : (first : Option (List ℕ)) → Paid first written0 old sent0 → Pays first written1 new sent1 result
