-- Which rank's failure ends a job, and the status of all.
use Rattle.std.specs.Prelude.{ℕ, ◌==◌, ◌++◌, List, Option, Some, None, codes, if◌then◌else◌}
use Rattle.std.specs.Fmt.{decimal}
use Rattle.launch_keeper.specs.Statuses.{launch_status}
use Rattle.launch_plan.specs.declared.outcome.LaunchOutcome.{LaunchOutcome}
use Rattle.launch_plan.specs.declared.outcome.LaunchOutcome.TheVariants as outcomes
use Rattle.launch_decisions.specs.declared.failure.Failure.{Failure}

-- a rank that ended for good with this status fails where that isn't 0
abbrev pub failure_of : ℕ → ℕ → Option Failure
failure_of rank status = if status == 0 then None else Some (record { rank = rank; status = status })

-- the first failure stays the first
abbrev pub after_end : Option Failure → ℕ → ℕ → Option Failure
after_end (Some failure) rank status = Some failure
after_end None rank status = failure_of rank status

-- the status of the failure that began, or else that of the lowest rank whose status isn't 0
abbrev pub ended : List ℕ → Option Failure → LaunchOutcome
ended statuses (Some failure) = outcomes.Ended failure.status
ended statuses None = outcomes.Ended (launch_status statuses)

-- the others are ended, since this rank failed
abbrev pub abort_line : ℕ → List ℕ
abort_line rank = codes "mpiexec: the other ranks are ended, since rank " ++ decimal rank ++ codes " failed"
