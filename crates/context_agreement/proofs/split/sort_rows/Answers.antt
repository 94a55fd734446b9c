-- FOR SPEED ALONE: each goal here is proved without this file, too; with it a wrong body is refused soon.
use Rattle.std.proofs.Common.{rules}
use Rattle.context_agreement.proofs.split.sort_rows.Goals as goal

pub sort_unstable-requires : goal.sort_unstable-requires
sort_unstable-requires c κs = search rules

pub returns-clause-permutation : goal.returns-clause-permutation
returns-clause-permutation c = search rules

pub returns-clause-sorted : goal.returns-clause-sorted
returns-clause-sorted c = search rules
