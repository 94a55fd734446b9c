-- FOR SPEED ALONE: each goal here is proved without this file, too; with it a wrong body is refused soon.
use Rattle.std.proofs.Common.{rules}
use Rattle.collective_messages.proofs.root.root_of.Goals as goal

pub returns-in-Reduce : goal.returns-in-Reduce
returns-in-Reduce c = search rules

pub returns-in-Barrier : goal.returns-in-Barrier
returns-in-Barrier c = search rules

pub returns-in-Bcast : goal.returns-in-Bcast
returns-in-Bcast c = search rules

pub returns-in-Bcast-2 : goal.returns-in-Bcast-2
returns-in-Bcast-2 c = search rules

pub returns-in-Bcast-3 : goal.returns-in-Bcast-3
returns-in-Bcast-3 c = search rules
