-- The statuses of ranks, and what is told of their ends.
use Rattle.std.specs.Prelude.{ℕ, ◌+◌, ◌==◌, Bool, true, false, min, nat_le, List, [], codes, Option, Some, None}
use Rattle.std.specs.Prelude.{if◌then◌else◌}
use Rattle.launch_decisions.specs.declared.failure.Failure.{Failure}
use Rattle.launch_keeper.specs.declared.ending.ProgramEnding.{ProgramEnding}
use Rattle.launch_keeper.specs.declared.ending.ProgramEnding.TheVariants as endings
use Rattle.run_plan.specs.declared.status.Consequence.{Consequence}
use Rattle.run_plan.specs.declared.status.Consequence.TheVariants as consequences

-- the status that a rank's ending counts as
abbrev pub run_status : ProgramEnding → ℕ
run_status endings.NotStarted = 127
run_status endings.WithoutStatus = 128
run_status (endings.Signal signal) = 128 + min signal 127
run_status (endings.Status status) = status

-- what the keeper on another host told of the end, if there is one; nothing is known where it was lost before
abbrev pub kept_ending : Option ProgramEnding → ProgramEnding
kept_ending (Some ending) = ending
kept_ending None = endings.WithoutStatus

-- how a rank's program ended, where what ran on this machine ended so
abbrev pub rank_ending : (is_kept : Bool) → Option ProgramEnding → (own : ProgramEnding) → ProgramEnding
rank_ending true reported own = kept_ending reported
rank_ending false reported own = own

-- the status of a job in which no rank failed for good
abbrev pub status_without : (is_interrupted is_late : Bool) → ℕ
status_without true is_late = 130
status_without false is_late = if is_late then 124 else 0

-- the status of a job: that of the failure that began, if one did
abbrev pub job_status : Option Failure → (is_interrupted is_late : Bool) → ℕ
job_status (Some failure) is_interrupted is_late = failure.status
job_status None is_interrupted is_late = status_without is_interrupted is_late

-- a job that has taken so many seconds has taken as long as it may
abbrev pub is_over_time : Option ℕ → ℕ → Bool
is_over_time None seconds = false
is_over_time (Some limit) seconds = nat_le limit seconds

-- what a signal is called, as Linux numbers them: SIGILL 4, SIGABRT 6, SIGBUS 7, SIGFPE 8, SIGKILL 9, SIGSEGV 11, SIGTERM
-- 15
abbrev pub signal_name : ℕ → List ℕ
signal_name signal =
    if signal == 4 then codes " (illegal instruction)"
    else (if signal == 6 then codes " (aborted)"
    else (if signal == 7 then codes " (bus error)"
    else (if signal == 8 then codes " (arithmetic error)"
    else (if signal == 9 then codes " (killed)"
    else (if signal == 11 then codes " (segmentation fault)"
    else (if signal == 15 then codes " (terminated)"
    else []))))))

-- the same of the one that ended a program, if one did
abbrev pub signal_text : ProgramEnding → List ℕ
signal_text endings.NotStarted = []
signal_text endings.WithoutStatus = []
signal_text (endings.Signal signal) = signal_name signal
signal_text (endings.Status status) = []

-- a failure ends the others where some run, unless they are to go on
abbrev pub consequence_of : (keeps_going others_run : Bool) → Consequence
consequence_of true others_run = consequences.Nothing
consequence_of false others_run = if others_run then consequences.OthersEnd else consequences.Nothing

-- what a failure does to the others, in words
abbrev pub consequence_text : Consequence → List ℕ
consequence_text consequences.Nothing = []
consequence_text consequences.OthersEnd = codes "; the other ranks are ended"
