-- FOR SPEED ALONE: each goal here is proved without this file, too; with it a wrong body is refused soon.
use Rattle.std.proofs.Common.{rules}
use Rattle.launch_plan.proofs.opening.name_of.Goals as goal

pub opening_of-requires : goal.opening_of-requires
opening_of-requires c = search rules

pub map-requires : goal.map-requires
map-requires c = search rules

pub returns-in-Ok : goal.returns-in-Ok
returns-in-Ok c = search rules

pub returns-in-Err : goal.returns-in-Err
returns-in-Err c = search rules
