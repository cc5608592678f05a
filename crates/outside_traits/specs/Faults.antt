-- Counts of faults and of calls.
use Rattle.std.specs.Prelude.{ℕ, ◌+◌, ◌-◌, ◌^◌, ◌<◌, ◌≤◌, min, is_err, if◌then◌else◌, Result, OnErr}

-- a count that rose by one, or stands still at its limit
abbrev pub raised : ℕ → ℕ
raised count = min (count + 1) (2 ^ 64 - 1)

-- the count of faults after a call, which rises by one exactly where the call failed
abbrev pub count_after : {T E : Type 0} → ℕ → Result T E → ℕ
count_after faults result = if is_err result then raised faults else faults

-- the count rose, or stood at its limit
abbrev pub Rose : ℕ → ℕ → Type 0
Rose before now = before < 2 ^ 64 - 1 → before < now

-- the count never falls, and a call fails only where it rose or stood at its limit
pub record HasCause {T E : Type 0} (before now : ℕ) (result : Result T E) : Type 0 where
  pub later : before ≤ now
  pub failed : OnErr result (Rose before now)
