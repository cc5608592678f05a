-- Why a session ends as it does, and which end goes before which.
use Rattle.std.specs.Prelude.{◌≡◌, ◌≢◌, ℕ, ◌+◌, ◌-◌, ◌^◌, ◌<◌, ◌≤◌, Bool, true, false, ◌&&◌, List, [], length, ◌⊎◌}
use Rattle.inlet.specs.Pump.{input_limit}
use Rattle.packet_framing.specs.Packets.{packets, IsBad}
use Rattle.session_model.specs.declared.event.Entry.{Entry}
use Rattle.session_model.specs.declared.limits.Limits.{Limits}
use Rattle.session_model.specs.Journal.{steps_made}
use Rattle.session_model.specs.Legal.{is_quiet}
use Rattle.session_model.specs.World.{World}
use Rattle.swank_session.specs.declared.outcome.Status.{Status}
use Rattle.swank_session.specs.declared.outcome.Status.TheVariants as status

-- the ends that go before every other: want of memory, and a fault of the sink
abbrev pub IsBroken : Status → Type 0
IsBroken status.NoMemory = Unit {0}
IsBroken status.WriteFault = Unit {0}
IsBroken _ = ⊥

-- the ends that go before a session without steps
abbrev pub IsBrokenOrFull : Status → Type 0
IsBrokenOrFull status.JournalFull = Unit {0}
IsBrokenOrFull other = IsBroken other

-- the ends that go before those of the input
abbrev pub IsStopped : Status → Type 0
IsStopped status.Budget = Unit {0}
IsStopped other = IsBrokenOrFull other

-- a session ends so only where the cause holds, and wherever it holds, unless an end comes that goes before
pub record IsDue (end status : Status) (GoesBefore : Status → Type 0) (Cause : Type 0) : Type 0 where
  pub only : end ≡ status → Cause
  pub always : Cause → (end ≡ status) ⊎ GoesBefore end

-- but for the place of a drain the journal is full, and something could still come
pub record IsFull (limits : Limits) (j : List Entry) (w : World) : Type 0 where
  pub long : limits.journal ≤ length j + 1
  pub open_ : w.closed ≡ false
  pub unfinished : (w.ended && is_quiet w) ≡ false

-- no step is left, and a thread could make one
pub record IsSpent (limits : Limits) (j : List Entry) (w : World) : Type 0 where
  pub spent : steps_made j ≡ limits.steps
  pub open_ : w.closed ≡ false
  pub busy : is_quiet w ≡ false

-- the session was not closed, and behind the last whole packet stands a bad header
pub record IsBadInput (w : World) (octets : List ℕ) : Type 0 where
  pub open_ : w.closed ≡ false
  pub bad : IsBad (packets octets).rest

-- it was not closed, and the input ended inside a packet
pub record IsCutInput (w : World) (ended : Bool) (octets : List ℕ) : Type 0 where
  pub open_ : w.closed ≡ false
  pub at_end : ended ≡ true
  pub some : (packets octets).rest ≢ []
  pub good : ¬ IsBad (packets octets).rest

-- it was not closed, and as many octets were taken as a session may have, before the input ended
pub record IsLongInput (w : World) (ended : Bool) (octets : List ℕ) : Type 0 where
  pub open_ : w.closed ≡ false
  pub more : ended ≡ false
  pub long : length octets ≡ input_limit
  pub good : ¬ IsBad (packets octets).rest

-- a request has closed the session, or the input ended behind a packet
pub data IsAllServed (w : World) (ended : Bool) (octets : List ℕ) : Type 0 where
  closes : w.closed ≡ true → IsAllServed w ended octets
  ends : ended ≡ true → (packets octets).rest ≡ [] → IsAllServed w ended octets

-- no fault was counted
pub record NoFault (before now : ℕ) : Type 0 where
  pub counts : before < 2 ^ 64 - 1
  pub same : now ≡ before

-- no limit was reached: of steps, of the journal, or of the input
pub record NoLimit (limits : Limits) (j : List Entry) (taken : ℕ) : Type 0 where
  pub steps : steps_made j < limits.steps
  pub journal : length j + 1 < limits.journal
  pub input : taken < input_limit
