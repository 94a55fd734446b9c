use Rattle.joined_ranks.proofs.Alone.{goes_further}
use Rattle.joined_ranks.proofs.Turns.{further}
use Rattle.joined_ranks.proofs.ranks.deliver_all.Goals as goal

pub returns-in_err-deliver_next-clause-alone : goal.returns-in_err-deliver_next-clause-alone
returns-in_err-deliver_next-clause-alone c = goes_further c.loop.invariant.alone c.deliver_next.ensures.alone

pub returns-in_err-deliver_next-clause-comes : goal.returns-in_err-deliver_next-clause-comes
returns-in_err-deliver_next-clause-comes c =
    further c.deliver_next.result c.loop.invariant.comes.0 _ _ _ c.loop.invariant.comes.1 c.deliver_next.ensures.comes

pub returns-then-not-branch-clause-alone : goal.returns-then-not-branch-clause-alone
returns-then-not-branch-clause-alone c = goes_further c.loop.invariant.alone c.deliver_next.ensures.alone

pub returns-then-not-branch-clause-comes : goal.returns-then-not-branch-clause-comes
returns-then-not-branch-clause-comes c =
    further c.deliver_next.result c.loop.invariant.comes.0 _ _ _ c.loop.invariant.comes.1 c.deliver_next.ensures.comes

pub loop-preserved : goal.loop-preserved
loop-preserved c = record {
  alone = goes_further c.loop.invariant.alone c.deliver_next.ensures.alone;
  comes = further c.deliver_next.result c.loop.invariant.comes.0 _ _ _ c.loop.invariant.comes.1 c.deliver_next.ensures.comes;
}
