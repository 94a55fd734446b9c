-- How a run ends.
use Rattle.std.specs.Prelude.{ℕ, Bool, true, false, not, ◌&&◌, ◌||◌, ◌==◌, List, Option, Some, None, nat_lt}
use Rattle.std.specs.Prelude.{if◌then◌else◌}
use Rattle.std.specs.List.{list_all, list_any}
use Rattle.rank_findings.specs.Findings.{is_fault}
use Rattle.rank_findings.specs.declared.ending.Ending.{Ending}
use Rattle.rank_findings.specs.declared.ending.Ending.TheVariants.{AllEnded, Deadlock, ByError, CutShort, RankSilent}
use Rattle.rank_findings.specs.declared.ending.Ending.TheVariants.{CutOff, IsOpen, Unexplored}
use Rattle.rank_findings.specs.declared.ending.Exit.{Exit}
use Rattle.rank_findings.specs.declared.ending.Exit.TheVariants.{Status, Signal}
use Rattle.rank_findings.specs.declared.ending.ProcessEnd.{ProcessEnd}
use Rattle.rank_findings.specs.declared.finding.Finding.{Finding}
use Rattle.rank_findings.specs.declared.finding.Finding.TheVariants.{Killed, NoFinalize, OtherStatus, RecordEnds}

abbrev pub ending_number : Ending → ℕ
ending_number AllEnded = 1
ending_number Deadlock = 2
ending_number ByError = 3
ending_number CutShort = 4
ending_number RankSilent = 5
ending_number CutOff = 6
ending_number IsOpen = 7
ending_number Unexplored = 8

-- the ending that a number names
abbrev pub ending_at : ℕ → Option Ending
ending_at n =
    if n == 1 then Some AllEnded else (if n == 2 then Some Deadlock else (if n == 3 then Some ByError else
    (if n == 4 then Some CutShort else (if n == 5 then Some RankSilent else (if n == 6 then Some CutOff else
    (if n == 7 then Some IsOpen else (if n == 8 then Some Unexplored else None)))))))

abbrev pub is_all_ended : Ending → Bool
is_all_ended AllEnded = true
is_all_ended e = false

abbrev pub is_unexplored : Ending → Bool
is_unexplored Unexplored = true
is_unexplored e = false

abbrev pub is_deadlock : Ending → Bool
is_deadlock Deadlock = true
is_deadlock e = false

-- A run is over once a rank has made a call that can't be explored, or ended the job, which is an error, or all ranks have
-- ended
abbrev pub ending_of_ranks : (is_unexplored is_aborted : Bool) → (has_ended : List Bool) → Option Ending
ending_of_ranks is_unexplored is_aborted has_ended =
    if is_unexplored then Some Unexplored else if is_aborted then Some ByError else (if list_all (λ e. e) has_ended then Some AllEnded else None)

-- Where no rank can go on and there is no move, those that only ask are told no; it is a deadlock where nobody asks, or
-- those that do were told no 1,000 times in a row
abbrev pub is_stuck : (asks : List Bool) → (rounds : ℕ) → Bool
is_stuck asks rounds = not (nat_lt rounds 1000) || not (list_any (λ a. a) asks)

-- of a process that ended with a status: 96 of one that plays a record tells that the record was over
abbrev pub finding_of_status : ProcessEnd → (status : ℕ) → Ending → Option Finding
finding_of_status p status ending =
    if p.is_played && (status == 96) then Some RecordEnds else
    (if not p.has_finalized && not p.has_failed then Some NoFinalize else
    (if is_all_ended ending && not (status == 0) then Some OtherStatus else None))

-- What is told of how a process ended in a run that ends so as far as is known: nothing where the explorer ended it
abbrev pub finding_of_exit : ProcessEnd → Exit → Ending → Option Finding
finding_of_exit p (Signal n) ending = Some Killed
finding_of_exit p (Status n) ending = finding_of_status p n ending

abbrev pub finding_of_end : ProcessEnd → Ending → Option Finding
finding_of_end p ending = if p.is_own then finding_of_exit p p.exit ending else None

-- a process that dies ends its run by an error
abbrev pub ending_behind : Ending → Option Finding → Ending
ending_behind ending (Some f) = if is_fault f then ByError else ending
ending_behind ending None = ending

-- Where the record of some rank was over it isn't known how the others go on, unless they wait for each other
abbrev pub with_open_end : Ending → (has_open_end has_cycle : Bool) → Ending
with_open_end ending has_open_end has_cycle =
    if has_open_end && (is_all_ended ending || (is_deadlock ending && not has_cycle)) then IsOpen else ending

-- by another signal than 9, which is the explorer's own; 0 is none
abbrev pub is_kill : (signal : ℕ) → Bool
is_kill signal = not (signal == 0) && not (signal == 9)

-- a rank called MPI_Init, or was killed by a signal
abbrev pub is_program : (has_begun : Bool) → (signals : List ℕ) → Bool
is_program has_begun signals = has_begun || list_any is_kill signals
