-- A member's part is put together.
use Rattle.collective_plans.proofs.OrderedLoops.{other_pieces, root_pieces}
use Rattle.collective_plans.proofs.ordered.push_ordered.Goals as goal

pub returns-in_ok-push_folds_in : goal.returns-in_ok-push_folds_in
returns-in_ok-push_folds_in c =
    rw (c.in_ok-push_folds_in.ensures, c.in_ok-push_taking.ensures)
    (root_pieces c.args.size c.args.root c.args.rank c.args.plan.now.items c.if-rank-root.true)

pub returns-in_ok-push : goal.returns-in_ok-push
returns-in_ok-push c =
    rw c.in_ok-push.ensures.items
    (other_pieces c.args.size c.args.root c.args.rank c.args.plan.now.items c.requires.rank c.if-rank-root.false)
