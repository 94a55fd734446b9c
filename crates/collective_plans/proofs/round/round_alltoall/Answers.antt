-- The plan is put together.
use Rattle.collective_plans.proofs.RoundLoops.{alltoall_pieces}
use Rattle.collective_plans.proofs.round.round_alltoall.Goals as goal

pub returns : goal.returns
returns c =
    rw (
      c.in_ok-push_put_back.ensures,
      c.in_ok-push_passing.ensures,
      c.in_ok-push_turned.ensures,
      c.new-plan.ensures.items,
    )
    (alltoall_pieces c.args.size c.args.rank)
