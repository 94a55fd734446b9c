use Rattle.std.proofs.Common.{◌≡◌, drop}
use Rattle.launch_keeper.specs.Statuses.{launch_status}
use Rattle.launch_keeper.proofs.ending.launch_status.Given as goal

abbrev pub invariant-loop-status : goal.invariant-loop-status
invariant-loop-status l = launch_status (drop l.status-index l.statuses) ≡ launch_status l.statuses
