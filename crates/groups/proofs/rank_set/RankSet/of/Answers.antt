-- One more rank is in the set.
use Rattle.std.proofs.Common.{refl}
use Rattle.groups.proofs.RankSetLemmas.{marks_more}
use Rattle.groups.proofs.rank_set.RankSet.of.Goals as goal

pub loop-rank-preserved : goal.loop-rank-preserved
loop-rank-preserved c =
    marks_more c.loop-rank.set.words c.insert.new.self.words c.args.ranks.now c.loop-rank.rank-index _
    c.loop-rank-test.true refl c.loop-rank.invariant c.insert.ensures
