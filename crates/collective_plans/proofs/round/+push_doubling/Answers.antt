-- One round, and those behind it.
use Rattle.std.proofs.Common.{◌≡◌, List, OnOk, subst}
use Rattle.collective_plans.specs.declared.plan.Step.{Step}
use Rattle.collective_plans.proofs.RoundLoops.{below, doubling_more}
use Rattle.collective_plans.proofs.round.+push_doubling.Goals as goal

pub returns : goal.returns
returns t c =
    subst (λ (ss : List Step). OnOk c.push_doubling.result (c.push_doubling.new.plan.items ≡ ss))
    (rw (
      c.in_ok-push_further_receives.ensures,
      c.in_ok-push_first_sends.ensures,
      c.on-2.ensures,
      c.on.ensures,
      c.more_of-more.ensures,
    )
    (doubling_more c.args.size c.args.rank c.args.have c.args.plan.now.items c.requires.have.0
    (below c.args.have c.args.size c.requires.have.1 c.if-have-size.false)))
    c.push_doubling.ensures
