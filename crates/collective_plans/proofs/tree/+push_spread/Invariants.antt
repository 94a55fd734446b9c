-- The range grows smaller.
use Rattle.collective_plans.proofs.tree.+push_spread.Given as goal

abbrev pub decreases-push_spread : goal.decreases-push_spread
decreases-push_spread l = l.count
