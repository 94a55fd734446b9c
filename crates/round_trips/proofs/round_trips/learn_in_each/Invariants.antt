use Rattle.std.proofs.Common.{◌≡◌, ◌++◌, drop, map, take}
use Rattle.round_trips.specs.Trips.{with_estimate}
use Rattle.round_trips.proofs.round_trips.learn_in_each.Given as goal

abbrev pub invariant-loop-trip : goal.invariant-loop-trip
invariant-loop-trip l =
    l.trips ≡ map (λ t. with_estimate t l.estimate) (take l.trip-index l.fn.trips) ++ drop l.trip-index l.fn.trips
