-- The set holds the ranks so far.
use Rattle.std.proofs.Common.{◌≡◌, ℕ, take}
use Rattle.groups.specs.RankSets.{is_marked}
use Rattle.groups.specs.Groups.{is_member}
use Rattle.groups.proofs.rank_set.RankSet.of.Given as goal

abbrev pub invariant-loop-rank : goal.invariant-loop-rank
invariant-loop-rank l = (rank : ℕ) → is_marked l.set.words rank ≡ is_member (take l.rank-index l.ranks) rank
