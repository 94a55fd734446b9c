-- FOR SPEED ALONE: each goal here is proved without this file, too; with it a wrong body is refused soon.
use Rattle.std.proofs.Common.{rules}
use Rattle.payload.proofs.reading.head_of.Goals as goal

pub slice_bounds-read_u32-count : goal.slice_bounds-read_u32-count
slice_bounds-read_u32-count c = search rules

pub slice_bounds-read_u32-start : goal.slice_bounds-read_u32-start
slice_bounds-read_u32-start c = search rules

pub slice_bounds-read_u32-end : goal.slice_bounds-read_u32-end
slice_bounds-read_u32-end c = search rules

pub read_u32-requires : goal.read_u32-requires
read_u32-requires c = search rules

pub bounds-bytes-0 : goal.bounds-bytes-0
bounds-bytes-0 c = search rules

pub from_code-requires : goal.from_code-requires
from_code-requires c = search rules

pub returns-in_default-clause-long : goal.returns-in_default-clause-long
returns-in_default-clause-long c = search rules

pub bounds-bytes-1 : goal.bounds-bytes-1
bounds-bytes-1 c = search rules

pub bounds-bytes-2 : goal.bounds-bytes-2
bounds-bytes-2 c = search rules

pub slice_bounds-read_u32-count-2 : goal.slice_bounds-read_u32-count-2
slice_bounds-read_u32-count-2 c = search rules

pub slice_bounds-read_u32-start-2 : goal.slice_bounds-read_u32-start-2
slice_bounds-read_u32-start-2 c = search rules

pub slice_bounds-read_u32-end-2 : goal.slice_bounds-read_u32-end-2
slice_bounds-read_u32-end-2 c = search rules

pub read_u32-requires-2 : goal.read_u32-requires-2
read_u32-requires-2 c = search rules

pub slice_bounds-read_u32-count-3 : goal.slice_bounds-read_u32-count-3
slice_bounds-read_u32-count-3 c = search rules

pub slice_bounds-read_u32-start-3 : goal.slice_bounds-read_u32-start-3
slice_bounds-read_u32-start-3 c = search rules

pub slice_bounds-read_u32-end-3 : goal.slice_bounds-read_u32-end-3
slice_bounds-read_u32-end-3 c = search rules

pub read_u32-requires-3 : goal.read_u32-requires-3
read_u32-requires-3 c = search rules

pub record_in-requires : goal.record_in-requires
record_in-requires c = search rules

pub returns-clause-long : goal.returns-clause-long
returns-clause-long c = search rules
