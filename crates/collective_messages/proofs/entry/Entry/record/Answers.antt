-- FOR SPEED ALONE: each goal here is proved without this file, too; with it a wrong body is refused soon.
use Rattle.std.proofs.Common.{rules}
use Rattle.collective_messages.proofs.entry.Entry.record.Goals as goal

pub rooted_record-requires : goal.rooted_record-requires
rooted_record-requires c = search rules

pub rooted_record-requires-in-Gather : goal.rooted_record-requires-in-Gather
rooted_record-requires-in-Gather c = search rules

pub rooted_record-requires-in-Reduce : goal.rooted_record-requires-in-Reduce
rooted_record-requires-in-Reduce c = search rules

pub elements-requires : goal.elements-requires
elements-requires c = search rules

pub returns-in-Barrier : goal.returns-in-Barrier
returns-in-Barrier c = search rules

pub returns-in-Bcast : goal.returns-in-Bcast
returns-in-Bcast c = search rules

pub returns-in-Gather : goal.returns-in-Gather
returns-in-Gather c = search rules

pub returns-in-Scatter : goal.returns-in-Scatter
returns-in-Scatter c = search rules

pub returns-in-Reduce : goal.returns-in-Reduce
returns-in-Reduce c = search rules

pub returns-in-Allreduce : goal.returns-in-Allreduce
returns-in-Allreduce c = search rules

pub returns-in-Dup : goal.returns-in-Dup
returns-in-Dup c = search rules

pub returns-in-Split : goal.returns-in-Split
returns-in-Split c = search rules
