-- FOR SPEED ALONE: each goal here is proved without this file, too; with it a wrong body is refused soon.
use Rattle.std.proofs.Common.{arith, rules}
use Rattle.std.proofs.lemmas.Grind.{common_steps}
use Rattle.world.proofs.engines.fault_of_stray.Goals as goal

pub slice_bounds-read_u64-count : goal.slice_bounds-read_u64-count
slice_bounds-read_u64-count c = search rules

pub slice_bounds-read_u64-start : goal.slice_bounds-read_u64-start
slice_bounds-read_u64-start c = search rules

pub slice_bounds-read_u64-end : goal.slice_bounds-read_u64-end
slice_bounds-read_u64-end c = search rules

pub read_u64-requires : goal.read_u64-requires
read_u64-requires c = search rules

pub returns-then-read_u64-eq-JOB : goal.returns-then-read_u64-eq-JOB
returns-then-read_u64-eq-JOB c = grind (arith, common_steps)

pub read_within-requires : goal.read_within-requires
read_within-requires c = search rules

pub of_datagram-requires : goal.of_datagram-requires
of_datagram-requires c = search rules

pub returns-in-Ok : goal.returns-in-Ok
returns-in-Ok c = grind (arith, common_steps)

pub returns-in-Err : goal.returns-in-Err
returns-in-Err c = grind (arith, common_steps)
