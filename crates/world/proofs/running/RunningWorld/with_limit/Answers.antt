use Rattle.std.proofs.Common.{arith}
use Rattle.world.proofs.RunningPasts.{made_has_come, made_has_past}
use Rattle.world.proofs.running.RunningWorld.with_limit.Goals as goal

pub invariant_of-result : goal.invariant_of-result
invariant_of-result c =
    made_has_past c.args.limit c.args.size _ _ (omega (arith, c.if-size-gt-MOST_RANKS.false)) c.in_ok-engines.ensures.ok
    c.new.ensures.items

pub returns-clause-run : goal.returns-clause-run
returns-clause-run c =
    made_has_come c.args.limit c.args.size _ _ (omega (arith, c.if-size-gt-MOST_RANKS.false)) c.in_ok-engines.ensures.ok
    c.new.ensures.items
