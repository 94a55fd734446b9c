-- What the ranks so far handed in is known.
use Rattle.std.proofs.Common.{◌≡◌, take, true}
use Rattle.collective_progress.specs.Blocks.{are_known}
use Rattle.collective_progress.proofs.seat.Seat.are_known.Given as goal

abbrev pub invariant-loop-rank : goal.invariant-loop-rank
invariant-loop-rank l =
    are_known l.self.own l.mine l.self.inside.now.incarnation l.self.inside.now.context l.self.inside.now.number
    l.self.notes.now (take l.rank-index l.ranks) ≡
    true
