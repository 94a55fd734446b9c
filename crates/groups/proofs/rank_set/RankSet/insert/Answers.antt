-- The write sets one bit.
use Rattle.std.proofs.Common.{arith}
use Rattle.groups.proofs.RankSetLemmas.{Marks-set}
use Rattle.groups.proofs.rank_set.RankSet.insert.Goals as goal

pub returns : goal.returns
returns c = Marks-set c.args.self.now.words c.args.rank c.from.result c.from.ensures (omega arith)
