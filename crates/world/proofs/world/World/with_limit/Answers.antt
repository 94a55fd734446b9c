use Rattle.std.proofs.Common.{arith}
use Rattle.world.proofs.EventByEvent.{made_has_none}
use Rattle.world.proofs.Sound.{opening_sound}
use Rattle.world.proofs.world.World.with_limit.Goals as goal

pub invariant_of-result : goal.invariant_of-result
invariant_of-result c =
    rw (c.in_ok-engines.ensures.ok, c.new.ensures.items, c.new-2.ensures.items)
    (opening_sound c.args.limit c.args.size (omega (arith, c.if-size-gt-MOST_RANKS.false)))

pub returns-clause-run : goal.returns-clause-run
returns-clause-run c =
    made_has_none c.args.limit c.args.size _ _ _ _ _ (omega (arith, c.if-size-gt-MOST_RANKS.false))
    c.in_ok-engines.ensures.ok
    c.new.ensures.items c.new-2.ensures.items c.new.ensures.capacity c.new-2.ensures.capacity
