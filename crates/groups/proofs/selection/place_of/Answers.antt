-- There are 65,536 ranks.
use Rattle.std.proofs.Common.{arith}
use Rattle.groups.proofs.Repeats.{length-le_from_apart}
use Rattle.groups.proofs.selection.place_of.Goals as goal

pub overflow_cast-result : goal.overflow_cast-result
overflow_cast-result c =
    omega (arith, length-le_from_apart c.args.ranks.now c.requires c.type_inv.ranks, c.in-Some.ensures.within)
