use Rattle.std.proofs.Common.{rules, arith}
use Rattle.derived_types.proofs.LayoutLaws.{lowest_of-le-highest_of}
use Rattle.derived_types.proofs.layout.Layout.extent.Goals as goal

pub overflow_add-result : goal.overflow_add-result
overflow_add-result c = let w = c.self.invariant.within in omega arith

pub overflow_sub-result : goal.overflow_sub-result
overflow_sub-result c = let h = lowest_of-le-highest_of c.self.inside.offsets.items in omega arith

pub returns-else-is_empty : goal.returns-else-is_empty
returns-else-is_empty c = search rules
