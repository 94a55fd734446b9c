-- A member's half.
use Rattle.std.proofs.Common.{◌≡◌, List, OnOk, subst, arith}
use Rattle.collective_plans.specs.declared.plan.Step.{Step}
use Rattle.collective_plans.proofs.TreeLoops.{spread_first, spread_second}
use Rattle.collective_plans.proofs.tree.+push_spread.Goals as goal

pub returns-then-rank-middle : goal.returns-then-rank-middle
returns-then-rank-middle t c =
    subst (λ (ss : List Step). OnOk c.push_spread.result (c.push_spread.new.plan.items ≡ ss))
    (rw (c.in_ok-push_handing.ensures, c.first_holder.ensures, c.other_holder.ensures)
    (spread_first c.args.block c.args.low c.args.count c.args.holder c.args.rank c.args.plan.now.items
    (omega (arith, c.if-count-lt2.false)) c.requires.holder c.requires.rank c.if-rank-middle.true))
    c.push_spread.ensures

pub returns-else-rank-middle : goal.returns-else-rank-middle
returns-else-rank-middle t c =
    subst (λ (ss : List Step). OnOk c.push_spread-else-rank-middle.result
    (c.push_spread-else-rank-middle.new.plan.items ≡ ss))
    (rw (c.in_ok-push_handing.ensures, c.second_holder.ensures, c.other_holder.ensures)
    (spread_second c.args.block c.args.low c.args.count c.args.holder c.args.rank c.args.plan.now.items
    (omega (arith, c.if-count-lt2.false)) c.requires.holder c.requires.rank (omega (arith, c.if-rank-middle.false))))
    c.push_spread-else-rank-middle.ensures
