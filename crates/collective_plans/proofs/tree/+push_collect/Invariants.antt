-- The range grows smaller.
use Rattle.collective_plans.proofs.tree.+push_collect.Given as goal

abbrev pub decreases-push_collect : goal.decreases-push_collect
decreases-push_collect l = l.count
