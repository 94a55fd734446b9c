-- The exchange is put together.
use Rattle.collective_plans.specs.Exchanges.{source_of, target_of}
use Rattle.collective_plans.proofs.PlanLoops.{exchange_put_together}
use Rattle.collective_plans.proofs.exchange.push_exchange.Goals as goal

pub returns : goal.returns
returns c =
    rw (
      c.in_ok-push_receives-2.ensures,
      c.in_ok-push_receives.ensures,
      c.in_ok-push_sends-2.ensures,
      c.in_ok-push_sends.ensures,
      c.in_ok-push.ensures.items,
      c.source.ensures,
      c.target.ensures,
    )
    (exchange_put_together (source_of c.args.each) (target_of c.args.kept) c.args.plan.now.items c.args.size
    c.args.rank)
