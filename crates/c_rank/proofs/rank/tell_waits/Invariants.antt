use Rattle.std.proofs.Common.{◌≡◌, take}
use Rattle.c_rank.specs.Clocks.{waits_in, with_waits}
use Rattle.c_rank.proofs.rank.tell_waits.Given as goal

abbrev pub invariant-loop-rank : goal.invariant-loop-rank
invariant-loop-rank l = l.engine ≡ with_waits l.fn.engine 0 (take l.rank (waits_in l.may_repeat l.trips))
