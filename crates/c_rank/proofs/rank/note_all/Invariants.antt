use Rattle.std.proofs.Common.{◌≡◌, take}
use Rattle.c_rank.specs.Clocks.{after_all}
use Rattle.c_rank.proofs.rank.note_all.Given as goal

abbrev pub invariant-loop-datagram : goal.invariant-loop-datagram
invariant-loop-datagram l = l.trips ≡ after_all l.fn.trips (take l.datagram-index l.list) l.now
