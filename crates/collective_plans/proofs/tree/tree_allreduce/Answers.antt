-- The plan is put together.
use Rattle.collective_plans.proofs.TreeLoops.{allreduce_pieces}
use Rattle.collective_plans.proofs.tree.tree_allreduce.Goals as goal

pub returns : goal.returns
returns c =
    rw (c.in_ok-push_spread.ensures, c.in_ok-push_reducing.ensures, c.new-plan.ensures.items)
    (allreduce_pieces c.args.size c.args.rank)
