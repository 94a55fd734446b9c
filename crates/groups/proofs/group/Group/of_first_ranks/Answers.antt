-- Ranks that rise by one.
use Rattle.groups.proofs.Repeats.{HasNoRepeats-range_with_len}
use Rattle.groups.proofs.group.Group.of_first_ranks.Goals as goal

pub invariant_of-result : goal.invariant_of-result
invariant_of-result c = rw c.in-Ok.ensures (HasNoRepeats-range_with_len 0 c.args.size)
