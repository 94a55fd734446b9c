use Rattle.std.proofs.Common.{◌≡◌, take}
use Rattle.c_rank.specs.Windows.{offered_all}
use Rattle.c_rank.proofs.windows.offer_all.Given as goal

abbrev pub invariant-loop-datagram : goal.invariant-loop-datagram
invariant-loop-datagram l = l.windows ≡ offered_all l.fn.windows (take l.datagram-index l.list)
