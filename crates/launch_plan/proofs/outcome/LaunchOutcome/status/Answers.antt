-- FOR SPEED ALONE: each goal here is proved without this file, too; with it a wrong body is refused soon.
use Rattle.std.proofs.Common.{rules}
use Rattle.launch_plan.proofs.outcome.LaunchOutcome.status.Goals as goal

pub returns-in-Ended : goal.returns-in-Ended
returns-in-Ended c = search rules

pub returns-in-Refused : goal.returns-in-Refused
returns-in-Refused c = search rules

pub returns-in-Failed : goal.returns-in-Failed
returns-in-Failed c = search rules
