use Rattle.std.proofs.Common.{◌≡◌}
use Rattle.rank_process.specs.Stays.{longest_stay}
use Rattle.rank_process.proofs.stay.stay_in.Given as goal

abbrev pub invariant-loop-rank : goal.invariant-loop-rank
invariant-loop-rank l = l.stay ≡ longest_stay l.is_near l.trips l.rank
