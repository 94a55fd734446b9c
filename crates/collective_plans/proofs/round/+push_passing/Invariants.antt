-- Fewer are left.
use Rattle.std.proofs.Common.{◌-◌}
use Rattle.collective_plans.proofs.round.+push_passing.Given as goal

abbrev pub decreases-push_passing : goal.decreases-push_passing
decreases-push_passing l = l.size - l.distance
