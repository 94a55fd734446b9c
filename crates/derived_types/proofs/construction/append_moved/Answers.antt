use Rattle.std.proofs.Common.{arith}
use Rattle.derived_types.proofs.LayoutLaws.{get_or-le-highest_of}
use Rattle.derived_types.proofs.construction.append_moved.Goals as goal

pub overflow_add-by : goal.overflow_add-by
overflow_add-by c = let h = get_or-le-highest_of c.args.old.now c.loop-offset.offset-index in omega arith
