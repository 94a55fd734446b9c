-- The status of the launcher.
use Rattle.std.specs.Prelude.{ℕ}
use Rattle.launch_plan.specs.declared.outcome.LaunchOutcome.{LaunchOutcome}
use Rattle.launch_plan.specs.declared.outcome.LaunchOutcome.TheVariants as outcomes

-- the status that the launcher ends with
abbrev pub status_of_outcome : LaunchOutcome → ℕ
status_of_outcome (outcomes.Ended status) = status
status_of_outcome (outcomes.Refused refused) = 2
status_of_outcome outcomes.Failed = 3
