-- FOR SPEED ALONE: each goal here is proved without this file, too; with it a wrong body is refused soon.
use Rattle.std.proofs.Common.{rules}
use Rattle.rendezvous.proofs.transfers.keys_among.Goals as goal

pub iter-requires : goal.iter-requires
iter-requires c κs = search rules

pub filter-requires : goal.filter-requires
filter-requires c κs = search rules

pub iter-requires-2 : goal.iter-requires-2
iter-requires-2 c κs = search rules

pub filter-requires-2 : goal.filter-requires-2
filter-requires-2 c κs = search rules

pub collect-requires-clause-can : goal.collect-requires-clause-can
collect-requires-clause-can c = search rules

pub collect-requires-clause-finite : goal.collect-requires-clause-finite
collect-requires-clause-finite c = search rules

pub collect-requires-clause-can_collect : goal.collect-requires-clause-can_collect
collect-requires-clause-can_collect c = search rules

pub returns-in-Err : goal.returns-in-Err
returns-in-Err c = search rules
