-- FOR SPEED ALONE: each goal here is proved without this file, too; with it a wrong body is refused soon.
use Rattle.std.proofs.Common.{rules}
use Rattle.requests.proofs.table.progress_on_restart.Goals as goal

pub into_buffer-requires : goal.into_buffer-requires
into_buffer-requires c = search rules

pub drop-posted-requires : goal.drop-posted-requires
drop-posted-requires c κs = search rules

pub into_buffer-requires-in-Collecting : goal.into_buffer-requires-in-Collecting
into_buffer-requires-in-Collecting c = search rules

pub returns-in-Receiving : goal.returns-in-Receiving
returns-in-Receiving c = search rules

pub returns-in-Collecting : goal.returns-in-Collecting
returns-in-Collecting c = search rules

pub returns-in-Offering : goal.returns-in-Offering
returns-in-Offering c = search rules

pub returns-in-Finished : goal.returns-in-Finished
returns-in-Finished c = search rules
