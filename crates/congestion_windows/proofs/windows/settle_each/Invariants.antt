use Rattle.std.proofs.Common.{◌≡◌, ◌++◌, drop, map, take}
use Rattle.congestion_windows.specs.Flights.{settled}
use Rattle.congestion_windows.proofs.windows.settle_each.Given as goal

abbrev pub invariant-loop-flight : goal.invariant-loop-flight
invariant-loop-flight l = l.flights ≡ map settled (take l.flight-index l.fn.flights) ++ drop l.flight-index l.fn.flights
