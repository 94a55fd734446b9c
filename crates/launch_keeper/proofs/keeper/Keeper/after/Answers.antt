-- FOR SPEED ALONE: each goal here is proved without this file, too; with it a wrong body is refused soon.
use Rattle.std.proofs.Common.{rules}
use Rattle.launch_keeper.proofs.keeper.Keeper.after.Goals as goal

pub overflow_add-result : goal.overflow_add-result
overflow_add-result c = search rules

pub returns-then-used-self : goal.returns-then-used-self
returns-then-used-self c = search rules

pub returns-else-status-ne0 : goal.returns-else-status-ne0
returns-else-status-ne0 c = search rules
