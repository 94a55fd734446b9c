-- FOR SPEED ALONE: each goal here is proved without this file, too; with it a wrong body is refused soon.
use Rattle.std.proofs.Common.{rules}
use Rattle.groups.proofs.group.Group.from_ranks.Goals as goal

pub has_no_repeats-requires : goal.has_no_repeats-requires
has_no_repeats-requires c = search rules

pub returns-then-not-has_no_repeats : goal.returns-then-not-has_no_repeats
returns-then-not-has_no_repeats c = search rules

pub from_slice-requires : goal.from_slice-requires
from_slice-requires c = search rules

pub invariant_of-result : goal.invariant_of-result
invariant_of-result c = search rules

pub returns-in-Ok : goal.returns-in-Ok
returns-in-Ok c = search rules

pub returns-in-Err : goal.returns-in-Err
returns-in-Err c = search rules
