-- The ranks so far are seen, each once.
use Rattle.std.proofs.Common.{take}
use Rattle.groups.proofs.Repeats.{AreSeen}
use Rattle.groups.proofs.distinct.has_no_repeats.Given as goal

abbrev pub invariant-loop-rank : goal.invariant-loop-rank
invariant-loop-rank l = AreSeen l.seen.words (take l.rank-index l.ranks)
