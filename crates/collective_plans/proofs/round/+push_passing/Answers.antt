-- One round, and those behind it.
use Rattle.std.proofs.Common.{◌≡◌, List, OnOk, subst, arith}
use Rattle.collective_plans.specs.declared.plan.Step.{Step}
use Rattle.collective_plans.proofs.RoundLoops.{passing_more}
use Rattle.collective_plans.proofs.round.+push_passing.Goals as goal

pub returns : goal.returns
returns t c =
    subst (λ (ss : List Step). OnOk c.push_passing.result (c.push_passing.new.plan.items ≡ ss))
    (rw (c.in_ok-push_going_receives.ensures, c.in_ok-push_going_sends.ensures, c.on-2.ensures, c.on.ensures)
    (passing_more c.args.size c.args.rank c.args.distance c.args.plan.now.items c.requires.distance.0
    (omega (arith, c.if-distance-size.false))))
    c.push_passing.ensures
