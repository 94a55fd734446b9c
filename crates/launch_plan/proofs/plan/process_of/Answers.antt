use Rattle.std.proofs.Common.{sym, ◌∙◌}
use Rattle.launch_plan.proofs.RankLaws.{in_set, behind_set}
use Rattle.launch_plan.proofs.plan.process_of.Goals as goal

pub returns-then-left-set : goal.returns-then-left-set
returns-then-left-set c =
    sym (in_set c.args.sets.now c.loop-set.set-index c.loop-set.left c.set-item.result c.loop-set-test.true
    c.set-item.is c.if-left-set.true) ∙ c.loop-set.invariant

pub loop-set-preserved : goal.loop-set-preserved
loop-set-preserved c =
    sym (behind_set c.args.sets.now c.loop-set.set-index c.loop-set.left c.set-item.result c.loop-set-test.true
    c.set-item.is c.if-left-set.false) ∙ c.loop-set.invariant
