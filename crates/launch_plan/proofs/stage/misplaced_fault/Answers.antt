-- FOR SPEED ALONE: each goal here is proved without this file, too; with it a wrong body is refused soon.
use Rattle.std.proofs.Common.{rules}
use Rattle.launch_plan.proofs.stage.misplaced_fault.Goals as goal

pub returns-in-LeftOut : goal.returns-in-LeftOut
returns-in-LeftOut c = search rules

pub returns-in_default : goal.returns-in_default
returns-in_default c = search rules
