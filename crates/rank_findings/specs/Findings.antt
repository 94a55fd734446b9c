-- What is told of a run, and how much it weighs.
use Rattle.std.specs.Prelude.{ℕ, Bool, true, false, not, ◌==◌, Option, Some, None, if◌then◌else◌}
use Rattle.rank_findings.specs.declared.finding.Finding.{Finding}
use Rattle.rank_findings.specs.declared.finding.Finding.TheVariants.{RequestLeft, CommunicatorLeft, TypesLeft}
use Rattle.rank_findings.specs.declared.finding.Finding.TheVariants.{MessagesTaken, NeverReceived, NeedsBuffer, Waits}
use Rattle.rank_findings.specs.declared.finding.Finding.TheVariants.{AsksForEver, InFinalize, Cycle, Differs}
use Rattle.rank_findings.specs.declared.finding.Finding.TheVariants.{NeverEntered, CallFailed, ErrorReturned, Aborted}
use Rattle.rank_findings.specs.declared.finding.Finding.TheVariants.{Silent, Killed, NoFinalize, OtherStatus}
use Rattle.rank_findings.specs.declared.finding.Finding.TheVariants.{RecordEnds, CancelRaces, BufferMisused, StoodThere}
use Rattle.rank_findings.specs.declared.finding.Finding.TheVariants.{CantExplore, ReadyEarly}

abbrev pub finding_number : Finding → ℕ
finding_number RequestLeft = 1
finding_number CommunicatorLeft = 2
finding_number TypesLeft = 3
finding_number MessagesTaken = 4
finding_number NeverReceived = 5
finding_number NeedsBuffer = 6
finding_number Waits = 7
finding_number AsksForEver = 8
finding_number InFinalize = 9
finding_number Cycle = 10
finding_number Differs = 11
finding_number NeverEntered = 12
finding_number CallFailed = 13
finding_number ErrorReturned = 14
finding_number Aborted = 15
finding_number Silent = 16
finding_number Killed = 17
finding_number NoFinalize = 18
finding_number OtherStatus = 19
finding_number RecordEnds = 20
finding_number CancelRaces = 21
finding_number BufferMisused = 22
finding_number StoodThere = 23
finding_number CantExplore = 24
finding_number ReadyEarly = 25

-- the finding that a number names
abbrev pub finding_at : ℕ → Option Finding
finding_at n =
    if n == 1 then Some RequestLeft else (if n == 2 then Some CommunicatorLeft else (if n == 3 then Some TypesLeft else
    (if n == 4 then Some MessagesTaken else (if n == 5 then Some NeverReceived else
    (if n == 6 then Some NeedsBuffer else (if n == 7 then Some Waits else (if n == 8 then Some AsksForEver else
    (if n == 9 then Some InFinalize else (if n == 10 then Some Cycle else (if n == 11 then Some Differs else
    (if n == 12 then Some NeverEntered else (if n == 13 then Some CallFailed else
    (if n == 14 then Some ErrorReturned else (if n == 15 then Some Aborted else (if n == 16 then Some Silent else
    (if n == 17 then Some Killed else (if n == 18 then Some NoFinalize else (if n == 19 then Some OtherStatus else
    (if n == 20 then Some RecordEnds else (if n == 21 then Some CancelRaces else
    (if n == 22 then Some BufferMisused else (if n == 23 then Some StoodThere else (if n == 24 then Some CantExplore else
    (if n == 25 then Some ReadyEarly else None))))))))))))))))))))))))

-- the program is wrong: somebody waits and nobody can go on, a call fails, a process dies or makes no call, members enter
-- a collective differently or not at all, a buffer is used that an operation has, the time is over, a ready send may come
-- before its receive
abbrev pub is_fault : Finding → Bool
is_fault Waits = true
is_fault AsksForEver = true
is_fault InFinalize = true
is_fault Cycle = true
is_fault Differs = true
is_fault NeverEntered = true
is_fault CallFailed = true
is_fault Aborted = true
is_fault Silent = true
is_fault Killed = true
is_fault NoFinalize = true
is_fault BufferMisused = true
is_fault StoodThere = true
is_fault ReadyEarly = true
is_fault f = false

-- something is left over: a request, a message, a status, a send that a buffer is to take
abbrev pub is_left : Finding → Bool
is_left RequestLeft = true
is_left MessagesTaken = true
is_left NeverReceived = true
is_left NeedsBuffer = true
is_left OtherStatus = true
is_left f = false

-- 3: the program is wrong; 2: something is left over; 1: it is worth knowing
abbrev pub weight : Finding → ℕ
weight f = if is_fault f then 3 else (if is_left f then 2 else 1)

-- of what a number names
abbrev pub weight_of : Option Finding → ℕ
weight_of (Some f) = weight f
weight_of None = 0

abbrev pub weight_at : ℕ → ℕ
weight_at n = weight_of (finding_at n)

-- a rank is known to have come no further by an error that ends the program, by MPI_Abort, and by what can't be explored
abbrev pub does_fail : Finding → Bool
does_fail CallFailed = true
does_fail Aborted = true
does_fail CantExplore = true
does_fail f = false

-- such an error ends the job unless it is to be returned; MPI_Abort always does, and what can't be explored
abbrev pub ends_job : Finding → (goes_on : Bool) → Bool
ends_job CallFailed goes_on = not goes_on
ends_job Aborted goes_on = true
ends_job CantExplore goes_on = true
ends_job f goes_on = false
