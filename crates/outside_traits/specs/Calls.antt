-- The calls of a device in memory.
use Rattle.std.specs.Prelude.{Result}
use Rattle.outside_traits.specs.Faults.{count_after, raised}
use Rattle.outside_traits.specs.declared.calls.Calls.{Calls}

-- the counts after a call with this answer
abbrev pub calls_after : {T E : Type 0} → Calls → Result T E → Calls
calls_after old result = record { fail_at = old.fail_at; made = raised old.made; faults = count_after old.faults result }
