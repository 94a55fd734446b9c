-- At different positions there are different ranks.
use Rattle.groups.proofs.Selections.{HasNoRepeats-members_elsewhere}
use Rattle.groups.proofs.group.Group.excl.Goals as goal

pub invariant_of-result : goal.invariant_of-result
invariant_of-result c =
    rw c.in-Ok.ensures
    (HasNoRepeats-members_elsewhere c.ranks-ranks.result.now c.args.positions.now c.ranks-ranks.ensures.apart)
