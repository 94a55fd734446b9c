use Rattle.std.proofs.Common.{◌≡◌, ◌^◌}
use Rattle.cartesian_grids.proofs.balance.reaches.Given as goal

abbrev pub invariant-loop-step : goal.invariant-loop-step
invariant-loop-step l = l.power ≡ l.base ^ l.step
