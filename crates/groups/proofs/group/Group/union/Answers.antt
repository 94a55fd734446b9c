-- Nothing of the second that is in the first comes again.
use Rattle.groups.proofs.Repeats.{HasNoRepeats-union}
use Rattle.groups.proofs.group.Group.union.Goals as goal

pub invariant_of-result : goal.invariant_of-result
invariant_of-result c =
    rw c.in-Ok.ensures
    (HasNoRepeats-union c.ranks-first.result.now c.ranks-second.result.now c.ranks-first.ensures.apart
    c.ranks-second.ensures.apart)
