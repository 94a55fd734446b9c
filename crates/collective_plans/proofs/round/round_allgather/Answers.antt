-- The plan is put together.
use Rattle.collective_plans.proofs.RoundLoops.{allgather_pieces}
use Rattle.collective_plans.proofs.round.round_allgather.Goals as goal

pub returns : goal.returns
returns c =
    rw (
      c.in_ok-push_put_on.ensures,
      c.in_ok-push_doubling.ensures,
      c.in_ok-push.ensures.items,
      c.new-plan.ensures.items,
    )
    (allgather_pieces c.args.size c.args.rank)
