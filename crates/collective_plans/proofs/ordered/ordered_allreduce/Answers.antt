-- The plan is put together.
use Rattle.collective_plans.proofs.OrderedLoops.{ordered_pieces}
use Rattle.collective_plans.proofs.ordered.ordered_allreduce.Goals as goal

pub returns : goal.returns
returns c =
    rw (c.in_ok-push_spread.ensures, c.in_ok-push_ordered.ensures, c.new-plan.ensures.items)
    (ordered_pieces c.args.size c.args.rank)
