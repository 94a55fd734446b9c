-- Fewer are left.
use Rattle.std.proofs.Common.{◌-◌}
use Rattle.collective_plans.proofs.round.+push_doubling.Given as goal

abbrev pub decreases-push_doubling : goal.decreases-push_doubling
decreases-push_doubling l = l.size - l.have
