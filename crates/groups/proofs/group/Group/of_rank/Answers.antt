-- One rank comes once.
use Rattle.std.proofs.Common.{◌∙◌, ap, ◌++◌, ◌∷◌, []}
use Rattle.groups.proofs.Repeats.{HasNoRepeats-range_with_len}
use Rattle.groups.proofs.group.Group.of_rank.Goals as goal

pub invariant_of-result : goal.invariant_of-result
invariant_of-result c =
    rw (c.push_reserved.ensures.items, c.new-members.ensures.items) (HasNoRepeats-range_with_len c.args.rank 1)
