-- FOR SPEED ALONE: each goal here is proved without this file, too; with it a wrong body is refused soon.
use Rattle.std.proofs.Common.{rules}
use Rattle.point_to_point_calls.proofs.frames.frames_of.Goals as goal

pub iter-requires : goal.iter-requires
iter-requires c = search rules

pub map-requires : goal.map-requires
map-requires c = search rules

pub collect-requires-clause-can : goal.collect-requires-clause-can
collect-requires-clause-can c = search rules

pub collect-requires-clause-finite : goal.collect-requires-clause-finite
collect-requires-clause-finite c = search rules

pub collect-requires-clause-can_collect : goal.collect-requires-clause-can_collect
collect-requires-clause-can_collect c = search rules

pub returns-in-Ok-clause-err : goal.returns-in-Ok-clause-err
returns-in-Ok-clause-err c = search rules

pub returns-in-Err-clause-ok : goal.returns-in-Err-clause-ok
returns-in-Err-clause-ok c = search rules

pub returns-in-Err-clause-err : goal.returns-in-Err-clause-err
returns-in-Err-clause-err c = search rules
