-- A member's half, and then what joins the halves.
use Rattle.std.proofs.Common.{◌≡◌, List, OnOk, subst, arith}
use Rattle.collective_plans.specs.declared.plan.Step.{Step}
use Rattle.collective_plans.proofs.TreeLoops.{collect_first, collect_second}
use Rattle.collective_plans.proofs.tree.+push_collect.Goals as goal

pub returns-in_ok-push_collect : goal.returns-in_ok-push_collect
returns-in_ok-push_collect t c =
    subst (λ (ss : List Step). OnOk c.push_joining.result (c.push_joining.new.plan.items ≡ ss))
    (rw (c.in_ok-push_collect.ensures, c.first_holder.ensures, c.other_holder-other.ensures)
    (collect_first c.args.low c.args.count c.args.holder c.args.rank c.args.plan.now.items
    (omega (arith, c.if-count-lt2.false)) c.requires.holder c.requires.rank c.if-rank-middle.true))
    c.push_joining.ensures

pub returns-in_ok-push_collect-2 : goal.returns-in_ok-push_collect-2
returns-in_ok-push_collect-2 t c =
    subst (λ (ss : List Step). OnOk c.push_joining-else-rank-middle.result
    (c.push_joining-else-rank-middle.new.plan.items ≡ ss))
    (rw (c.in_ok-push_collect-2.ensures, c.second_holder.ensures, c.other_holder-other.ensures)
    (collect_second c.args.low c.args.count c.args.holder c.args.rank c.args.plan.now.items
    (omega (arith, c.if-count-lt2.false)) c.requires.holder c.requires.rank (omega (arith, c.if-rank-middle.false))))
    c.push_joining-else-rank-middle.ensures
