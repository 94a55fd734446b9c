-- FOR SPEED ALONE: each goal here is proved without this file, too; with it a wrong body is refused soon.
use Rattle.std.proofs.Common.{rules}
use Rattle.reductions.proofs.operation.combine_numbers.Goals as goal

pub greatest-requires-clause-first : goal.greatest-requires-clause-first
greatest-requires-clause-first c = search rules

pub greatest-requires-clause-second : goal.greatest-requires-clause-second
greatest-requires-clause-second c = search rules

pub least-requires-clause-first : goal.least-requires-clause-first
least-requires-clause-first c = search rules

pub least-requires-clause-second : goal.least-requires-clause-second
least-requires-clause-second c = search rules

pub sum_in-requires : goal.sum_in-requires
sum_in-requires c = search rules

pub product_in-requires : goal.product_in-requires
product_in-requires c = search rules

pub both_true-requires : goal.both_true-requires
both_true-requires c = search rules

pub one_true-requires : goal.one_true-requires
one_true-requires c = search rules

pub just_one_true-requires : goal.just_one_true-requires
just_one_true-requires c = search rules

pub both_maps-requires : goal.both_maps-requires
both_maps-requires c = search rules
