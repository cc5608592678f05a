-- What the process ends with.
use Rattle.std.specs.Prelude.{ℕ, Option, Some, None}
use Rattle.swank_session.specs.declared.outcome.Status.{Status}
use Rattle.swank_session.specs.declared.outcome.Status.TheVariants as status
use Rattle.swank_main.specs.declared.failure.Failure.{Failure}
use Rattle.swank_main.specs.declared.failure.Failure.TheVariants as failure

-- every status but Ok is a failure
abbrev pub failure_of : Status → Option Failure
failure_of status.Ok = None
failure_of status.Usage = Some failure.Usage
failure_of status.NoMemory = Some failure.NoMemory
failure_of status.ReadFault = Some failure.ReadFault
failure_of status.WriteFault = Some failure.WriteFault
failure_of status.BadHeader = Some failure.BadHeader
failure_of status.Truncated = Some failure.Truncated
failure_of status.InputLimit = Some failure.InputLimit
failure_of status.Budget = Some failure.Budget
failure_of status.JournalFull = Some failure.JournalFull

-- the status of the process; that of a run that ended well is 0
abbrev pub number_of : Failure → ℕ
number_of failure.Usage = 2
number_of failure.NoMemory = 3
number_of failure.ReadFault = 4
number_of failure.WriteFault = 5
number_of failure.BadHeader = 8
number_of failure.Truncated = 9
number_of failure.InputLimit = 10
number_of failure.Budget = 11
number_of failure.JournalFull = 12
