-- With what the program of a rank ends.
use Rattle.std.specs.Prelude.{ℕ, Bool, true, false, Result, Ok, Err}
use Rattle.event_loop.specs.Drives as drives
use Rattle.event_loop.specs.declared.round.Ended.{Ended}
use Rattle.event_loop.specs.declared.transport.TransportFault.{TransportFault}
use Rattle.rank_process.specs.declared.exit_status.ExitStatus.{ExitStatus}
use Rattle.rank_process.specs.declared.exit_status.ExitStatus.TheVariants as statuses

-- the status of the process
abbrev pub number_of : ExitStatus → ℕ
number_of (statuses.Ended status) = status
number_of statuses.NoScript = 1
number_of statuses.WrongWords = 2
number_of statuses.TransportFailed = 3
number_of statuses.OutOfMemory = 6
number_of statuses.Stopped = 7

-- where the loop failed: it was told to stop, or its transport failed
abbrev pub failed_as : (is_stopped : Bool) → ExitStatus
failed_as true = statuses.Stopped
failed_as false = statuses.TransportFailed

-- How a rank ends whose loop ended so, and what was kept back then went so: as its loop says, where nothing failed
abbrev pub ending_of : Result Ended TransportFault → (last : Result (Unit {0}) TransportFault) → (is_stopped : Bool) →
    ExitStatus
ending_of (Ok ended) (Ok x) is_stopped = statuses.Ended (drives.status_of ended)
ending_of (Ok ended) (Err f) is_stopped = statuses.TransportFailed
ending_of (Err f) last is_stopped = failed_as is_stopped
