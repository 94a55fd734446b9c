-- A member's part is put together.
use Rattle.collective_plans.proofs.TreeLoops.{reducing_at_root, reducing_elsewhere}
use Rattle.collective_plans.proofs.tree.push_reducing.Goals as goal

pub returns-in_ok-push-2 : goal.returns-in_ok-push-2
returns-in_ok-push-2 c =
    rw (c.in_ok-push-2.ensures.items, c.in_ok-push_collect.ensures, c.in_ok-push.ensures.items)
    (reducing_at_root c.args.size c.args.root c.args.rank c.args.plan.now.items c.requires.rank c.if-rank-root.true)

pub returns-else-rank-root : goal.returns-else-rank-root
returns-else-rank-root c =
    rw (c.in_ok-push_collect.ensures, c.in_ok-push.ensures.items)
    (reducing_elsewhere c.args.size c.args.root c.args.rank c.args.plan.now.items c.requires.rank
    c.if-rank-root.false)
