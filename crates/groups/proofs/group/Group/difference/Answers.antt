-- A filter leaves no repeats.
use Rattle.std.proofs.Common.{false}
use Rattle.groups.specs.Makings.{passes}
use Rattle.groups.proofs.Repeats.{HasNoRepeats-filter}
use Rattle.groups.proofs.group.Group.difference.Goals as goal

pub invariant_of-result : goal.invariant_of-result
invariant_of-result c =
    rw c.in-Ok.ensures
    (HasNoRepeats-filter (passes c.ranks-second.result.now false) c.ranks-first.result.now
    c.ranks-first.ensures.apart)
