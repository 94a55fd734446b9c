-- One more block.
use Rattle.collective_plans.proofs.OrderedLoops.{folds_done, folds_more}
use Rattle.collective_plans.proofs.ordered.push_folds_in.Goals as goal

pub loop-member-preserved : goal.loop-member-preserved
loop-member-preserved c =
    record {
      all = rw (c.in_ok-push.ensures.items, c.in_ok-push_taking.ensures)
          (folds_more c.args.root c.args.size c.loop-member.member c.loop-member.low c.loop-member.high
          c.loop-member.plan.items _ c.loop-member-test.true c.loop-member.invariant.all);
    }

pub returns : goal.returns
returns c =
    rw c.in_ok-push-2.ensures.items
    (folds_done c.args.root c.args.size c.loop-member.member c.loop-member.low c.loop-member.high
    c.loop-member.plan.items _ c.loop-member-test.false c.loop-member.invariant.all)
