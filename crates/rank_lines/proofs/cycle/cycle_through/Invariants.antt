use Rattle.std.proofs.Common.{◌≡◌}
use Rattle.rank_lines.specs.Cycles.{AreWaiting, first_or}
use Rattle.rank_lines.proofs.cycle.cycle_through.Given as goal

abbrev pub invariant-loop : goal.invariant-loop
invariant-loop l = (first_or l.way.items l.last ≡ l.start) × AreWaiting l.waits l.way.items l.last
