-- There are 65,536 ranks.
use Rattle.groups.proofs.Repeats.{length-le_from_apart}
use Rattle.groups.proofs.selection.count.Goals as goal

pub returns-clause-few : goal.returns-clause-few
returns-clause-few c = length-le_from_apart c.args.ranks.now c.requires c.type_inv.ranks
